-- Literals in code, with types by number.
use Rattle.std.specs.Prelude.{◌≡◌, ℕ, ◌<◌, ◌-◌, List, [], length, map, slice_get, option_map, Option, Some, None, IfSome}
use Rattle.std.specs.Option.{option_map_or}
use Rattle.type_model.specs.declared.term.Field.{Field}
use Rattle.type_model.specs.declared.term.TypeId.{TypeId}
use Rattle.type_model.specs.GoTypes.{GoType, BasicType, DefinedType, PointerTo, SliceOf, ArrayOf, MapOf, ChanOf, FuncOf, StructOf, InterfaceOf}
use Rattle.type_model.specs.Parts.{GoField, field_list}
use Rattle.typed_marks.specs.declared.mark.Mark.{Mark}
use Rattle.typed_marks.specs.declared.state.State.{State}
use Rattle.typed_marks.specs.Meanings.{Meaning}
use Rattle.rule_words.specs.Scenes.{said, IsMarkOf, type_in, IsTypeOf, MayBeTypeOf}
use Rattle.rule_words.specs.Again.{nth_of}
use Rattle.literal_rules.specs.declared.shape.Shape.{Shape as ShapeInCode}
use Rattle.literal_rules.specs.declared.shape.Shape.TheVariants as c
use Rattle.literal_rules.specs.declared.shape.Literal.{Literal as LiteralInCode}
use Rattle.literal_rules.specs.Shapes.{Shape, Fields, Row, Table, Other, Literal}

-- the fields of a struct type
abbrev pub fields_in : GoType → List GoField
fields_in (StructOf fields) = field_list fields
fields_in (BasicType kind) = []
fields_in (DefinedType name) = []
fields_in (PointerTo of) = []
fields_in (SliceOf of) = []
fields_in (ArrayOf size of) = []
fields_in (MapOf key of) = []
fields_in (ChanOf direction of) = []
fields_in (FuncOf of) = []
fields_in (InterfaceOf methods) = []

abbrev pub field_in : State → Field → GoField
field_in s f = record { name = f.name; owner = f.«package»; embedded = f.embedded; of = type_in s f.of; tag = f.tag }

abbrev pub shape_in : State → ShapeInCode → Shape
shape_in s (c.Fields of) = Fields (fields_in (type_in s of))
shape_in s (c.Row e limit) = Row (type_in s e) limit
shape_in s (c.Table key e) = Table (type_in s key) (type_in s e)
shape_in s c.Other = Other

abbrev pub IsShapeOf : State → ShapeInCode → Type 0
IsShapeOf s (c.Fields of) = IsTypeOf s of
IsShapeOf s (c.Row e limit) = IsTypeOf s e
IsShapeOf s (c.Table key e) = IsTypeOf s key × IsTypeOf s e
IsShapeOf s c.Other = Unit {0}

abbrev pub literal_in : State → LiteralInCode → Literal
literal_in s l = record { of = option_map (type_in s) l.of; shape = shape_in s l.shape }

pub record IsLiteralOf (s : State) (l : LiteralInCode) : Type 0 where
  pub of : MayBeTypeOf s l.of
  pub shape : IsShapeOf s l.shape

abbrev pub may_be_literal : State → Option LiteralInCode → Option Literal
may_be_literal s o = option_map (literal_in s) o

abbrev pub MayBeLiteralOf : State → Option LiteralInCode → Type 0
MayBeLiteralOf s o = IfSome o (IsLiteralOf s)

-- the marks of keys
abbrev pub keys_in : State → List (Option Mark) → List (Option Meaning)
keys_in s keys = map (λ (o : Option Mark). option_map (said s) o) keys

abbrev pub AreKeysOf : State → List (Option Mark) → Type 0
AreKeysOf s keys = (i : ℕ) (o : Option Mark) → slice_get keys i ≡ Some o → IfSome o (IsMarkOf s)

-- the last byte of a text; 0 where it has none
abbrev pub last_byte : List ℕ → ℕ
last_byte text = option_map_or (λ b. b) (slice_get text (length text - 1)) 0

-- all positions lie before
abbrev pub AllBefore : ℕ → List (Option ℕ) → Type 0
AllBefore limit places = (i p : ℕ) → nth_of places i ≡ Some p → p < limit
