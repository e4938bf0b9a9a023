-- A table that has the predeclared types.
use Rattle.std.specs.Prelude.{◌≡◌, ℕ, ◌<◌, List, [], ◌∷◌, None, map, take}
use Rattle.gv_base.specs.declared.constant.Kind.{Kind}
use Rattle.gv_base.specs.declared.constant.Kind.TheVariants as k
use Rattle.type_model.specs.GoTypes.{BasicType, DefinedType, type_number}
use Rattle.type_model.specs.declared.term.TypeName.{TypeName}
use Rattle.type_model.specs.declared.term.Term.TheVariants.{Basic}
use Rattle.type_model.specs.declared.table.TypeTable.{TypeTable}
use Rattle.type_model.specs.Tables.{types_in, terms_in, count, IsTable, declarations_in}
use Rattle.typed_tree.specs.declared.mark.Mark.{Mark}
use Rattle.typed_tree.specs.Meanings.{Meaning, Means}
use Rattle.typed_tree.specs.Universe.{error_name}

-- the number of a basic type in such a table
abbrev pub number_of_kind : Kind → ℕ
number_of_kind k.Bool = 0
number_of_kind k.Int = 1
number_of_kind k.Int8 = 2
number_of_kind k.Int16 = 3
number_of_kind k.Int32 = 4
number_of_kind k.Int64 = 5
number_of_kind k.Uint = 6
number_of_kind k.Uint8 = 7
number_of_kind k.Uint16 = 8
number_of_kind k.Uint32 = 9
number_of_kind k.Uint64 = 10
number_of_kind k.Uintptr = 11
number_of_kind k.Text = 12
number_of_kind k.UntypedBool = 13
number_of_kind k.UntypedInt = 14
number_of_kind k.UntypedRune = 15
number_of_kind k.UntypedText = 16
number_of_kind k.UntypedNil = 17

-- the kinds in the order of their numbers
abbrev pub kinds : List Kind
kinds =
    k.Bool
    ∷ k.Int
    ∷ k.Int8
    ∷ k.Int16
    ∷ k.Int32
    ∷ k.Int64
    ∷ k.Uint
    ∷ k.Uint8
    ∷ k.Uint16
    ∷ k.Uint32
    ∷ k.Uint64
    ∷ k.Uintptr
    ∷ k.Text
    ∷ k.UntypedBool
    ∷ k.UntypedInt
    ∷ k.UntypedRune
    ∷ k.UntypedText
    ∷ k.UntypedNil
    ∷ []

abbrev pub error_number : ℕ
error_number = 18

-- A table with the basic types and `error` under their numbers.
pub record HasBasics (t : TypeTable) : Type 0 where
  pub table : IsTable t
  pub basic : (kind : Kind) → type_number (types_in t) (number_of_kind kind) ≡ BasicType kind
  pub error : type_number (types_in t) error_number ≡ DefinedType error_name
  pub many : error_number < count t

-- over each table with these types the mark says this
pub record Says (mark : Mark) (meaning : Meaning) : Type 0 where
  pub over : (t : TypeTable) → HasBasics t → Means t mark meaning

-- A table with the first n of the basic types alone.
pub record HasKinds (t : TypeTable) (n : ℕ) : Type 0 where
  pub table : IsTable t
  pub terms : terms_in t ≡ map (λ kind. Basic kind) (take n kinds)
  pub undeclared : (name : TypeName) → declarations_in t name ≡ None

-- A table with the predeclared types alone.
pub record IsUniverse (t : TypeTable) : Type 0 where
  pub basics : HasBasics t
  pub few : count t ≡ 19
  pub undeclared : (name : TypeName) → declarations_in t name ≡ None
