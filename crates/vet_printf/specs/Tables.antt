-- What is known of an argument by its type.
use Rattle.std.specs.Prelude.{◌≡◌, ◌↔◌, ℕ, Bool, true, false, List, Option, IfSome}
use Rattle.std.specs.Option.{option_map_or}
use Rattle.gv_base.specs.Kinds.{is_integer}
use Rattle.type_model.specs.GoTypes.{GoType, BasicType, DefinedType, PointerTo, SliceOf, ArrayOf, MapOf, ChanOf, FuncOf, StructOf, InterfaceOf}
use Rattle.type_model.specs.Declarations.{Declarations, under_of}
use Rattle.type_model.specs.Tables.{count, declarations_in}
use Rattle.type_model.specs.declared.table.TypeTable.{TypeTable}
use Rattle.vet_printf.specs.declared.asking.Wanted.TheVariants as w
use Rattle.vet_printf.specs.declared.fault.Argument.{Argument}
use Rattle.vet_printf.specs.declared.verb.Class.{Class}
use Rattle.vet_printf.specs.Faults.{in_class}
use Rattle.vet_printf.specs.Fitting.{Has, Suits}
use Rattle.vet_printf.specs.InTable.{AreEach, ty}

-- ---- what an argument of a type is

abbrev pub is_integer_form : GoType → Bool
is_integer_form (BasicType kind) = is_integer kind
is_integer_form (DefinedType name) = false
is_integer_form (PointerTo of) = false
is_integer_form (SliceOf of) = false
is_integer_form (ArrayOf size of) = false
is_integer_form (MapOf key of) = false
is_integer_form (ChanOf direction of) = false
is_integer_form (FuncOf of) = false
is_integer_form (StructOf fields) = false
is_integer_form (InterfaceOf methods) = false

abbrev pub is_integer_type : Declarations → GoType → Bool
is_integer_type ds of = option_map_or is_integer_form (under_of ds of) false

-- Which verbs take an argument of the type.
pub record IsArgumentOf (ds : Declarations) (of : GoType) (x : Argument) : Type 0 where
  pub integer : x.integer ≡ is_integer_type ds of
  pub error : (x.error ≡ true) ↔ Has ds of w.Error
  pub classes : (class : Class) → (in_class x.classes class ≡ true) ↔ Suits ds class of

-- ---- in code

-- what a cell has of arguments of the type of its number
abbrev pub IsJudged : TypeTable → ℕ → Option Argument → Type 0
IsJudged t n cell = IfSome cell (IsArgumentOf (declarations_in t) (ty t n))

-- a cell for each type of a table, and what they have is so
abbrev pub AreJudged : TypeTable → List (Option Argument) → Type 0
AreJudged t cells = AreEach (IsJudged t) (count t) cells
