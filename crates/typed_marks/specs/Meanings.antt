-- What marks say, with types and constants themselves in place of their numbers.
use Rattle.std.specs.Prelude.{◌≡◌, ℕ, ◌<◌, List, length, Option, Some, None, option_map, option_and_then, slice_get}
use Rattle.gv_base.specs.declared.constant.Const.{Const}
use Rattle.type_model.specs.declared.term.TypeId.{TypeId}
use Rattle.type_model.specs.declared.term.TypeName.{TypeName}
use Rattle.type_model.specs.declared.table.TypeTable.{TypeTable}
use Rattle.type_model.specs.GoTypes.{GoType, BasicType, DefinedType, PointerTo, SliceOf, ArrayOf, MapOf, ChanOf, FuncOf, StructOf, InterfaceOf, type_at}
use Rattle.type_model.specs.Declarations.{Declaration, Declarations}
use Rattle.type_model.specs.Tables.{types_in, count, declarations_in}
use Rattle.typed_tree.specs.declared.mark.Mode.{Mode}
use Rattle.typed_tree.specs.declared.place.Want.{Want as Demand}
use Rattle.typed_tree.specs.declared.rule.Rule.{Rule}
use Rattle.typed_tree.specs.declared.rule.Limit.{Limit}
use Rattle.typed_marks.specs.declared.mark.ConstId.{ConstId}
use Rattle.typed_marks.specs.declared.mark.Facts.{Facts}
use Rattle.typed_marks.specs.declared.mark.Want.{Want}
use Rattle.typed_marks.specs.declared.mark.Want.TheVariants as w
use Rattle.typed_marks.specs.declared.mark.Mark.{Mark}
use Rattle.typed_marks.specs.declared.mark.Mark.TheVariants as m

pub record Known : Type 0 where
  pub mode : Mode
  pub of : GoType
  pub value : Option Const
  pub last : GoType

-- which type a place wants: none; one that an untyped expression takes, and around which it is tested, or in which a constant is
-- representable; or one to which the expression is assigned
pub data Wish : Type 0 where
  Free : Wish
  Takes : GoType → Wish
  Fits : GoType → Wish
  Assigned : GoType → Wish

-- What is said of an item. Of a node or an object it is good, or breaks a rule, or lies outside the profile, or nothing is said, since a part that
-- its rule needs isn't good. Of a place it is what is wanted there. Of a type it is what its name is declared with.
pub data Meaning : Type 0 where
  Right : Known → Meaning
  Wrong : Rule → Meaning
  Beyond : Limit → Meaning
  Quiet : Meaning
  Wishes : Demand → Wish → Meaning
  Declares : Declaration → Meaning

-- ---- over tables

abbrev pub constant_at : List Const → Option ConstId → Option Const
constant_at constants o = option_and_then (λ (id : ConstId). slice_get constants id.0) o

abbrev pub known_in : List GoType → List Const → Facts → Known
known_in types constants f = record { mode = f.mode; of = type_at types f.of; value = constant_at constants f.value; last = type_at types f.last }

abbrev pub wish_in : List GoType → Want → Wish
wish_in types w.Free = Free
wish_in types (w.Takes of) = Takes (type_at types of)
wish_in types (w.Fits of) = Fits (type_at types of)
wish_in types (w.Assigned of) = Assigned (type_at types of)

-- the declaration of a defined type
abbrev pub declaration_of : Declarations → GoType → Option Declaration
declaration_of ds (BasicType kind) = None
declaration_of ds (DefinedType name) = ds name
declaration_of ds (PointerTo of) = None
declaration_of ds (SliceOf of) = None
declaration_of ds (ArrayOf size of) = None
declaration_of ds (MapOf key of) = None
declaration_of ds (ChanOf direction of) = None
declaration_of ds (FuncOf of) = None
declaration_of ds (StructOf fields) = None
declaration_of ds (InterfaceOf methods) = None

abbrev pub declared : Option Declaration → Meaning
declared None = Quiet
declared (Some d) = Declares d

-- what a mark says over these types, declarations and constants
abbrev pub mark_over : List GoType → Declarations → List Const → Mark → Meaning
mark_over types ds constants (m.Good facts) = Right (known_in types constants facts)
mark_over types ds constants (m.Bad rule) = Wrong rule
mark_over types ds constants (m.Outside limit) = Beyond limit
mark_over types ds constants m.Silent = Quiet
mark_over types ds constants (m.Wants demand want) = Wishes demand (wish_in types want)
mark_over types ds constants (m.Declared of) = declared (declaration_of ds (type_at types of))

abbrev pub mark_in : TypeTable → List Const → Mark → Meaning
mark_in t constants mark = mark_over (types_in t) (declarations_in t) constants mark

-- ---- numbers that stand in tables

abbrev pub IsValueWithin : ℕ → Option ConstId → Type 0
IsValueWithin n None = Unit {0}
IsValueWithin n (Some id) = id.0 < n

abbrev pub IsWantWithin : ℕ → Want → Type 0
IsWantWithin n w.Free = Unit {0}
IsWantWithin n (w.Takes of) = of.0 < n
IsWantWithin n (w.Fits of) = of.0 < n
IsWantWithin n (w.Assigned of) = of.0 < n

pub record AreWithin (types constants : ℕ) (f : Facts) : Type 0 where
  pub of : f.of.0 < types
  pub value : IsValueWithin constants f.value
  pub last : f.last.0 < types

-- the type is the defined type of a name that is declared
abbrev pub IsDeclared : List GoType → Declarations → ℕ → TypeId → Type 0
IsDeclared types ds n of = (of.0 < n) × ((name : TypeName) × (d : Declaration) × (type_at types of ≡ DefinedType name) × (ds name ≡ Some d))

abbrev pub IsOver : List GoType → Declarations → ℕ → ℕ → Mark → Type 0
IsOver types ds n constants (m.Good facts) = AreWithin n constants facts
IsOver types ds n constants (m.Bad rule) = Unit {0}
IsOver types ds n constants (m.Outside limit) = Unit {0}
IsOver types ds n constants m.Silent = Unit {0}
IsOver types ds n constants (m.Wants demand want) = IsWantWithin n want
IsOver types ds n constants (m.Declared of) = IsDeclared types ds n of

-- the types and constants of a mark stand in the tables
abbrev pub IsMarkIn : TypeTable → List Const → Mark → Type 0
IsMarkIn t constants mark = IsOver (types_in t) (declarations_in t) (count t) (length constants) mark
