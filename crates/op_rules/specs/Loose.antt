-- What the tests of an untyped operand beside a type stand for (Go 1.17, "Assignability").
use Rattle.std.specs.Prelude.{◌≡◌, ◌⊎◌, ◌↔◌, IsTrue, false, true, Option, Some, None}
use Rattle.gv_base.specs.declared.constant.Const.{Const}
use Rattle.gv_base.specs.declared.constant.Kind.{Kind}
use Rattle.gv_base.specs.declared.constant.Kind.TheVariants as k
use Rattle.gv_base.specs.Fits.{Fits}
use Rattle.type_model.specs.Declarations.{Declarations, under_of}
use Rattle.type_model.specs.GoTypes.{GoType, GoMethods, BasicType, NoMethod}
use Rattle.type_model.specs.Identity.{Identical}
use Rattle.type_rel.specs.Assigning.{Assignable}
use Rattle.type_rel.specs.Kinds.{is_untyped}
use Rattle.op_rules.specs.Beside.{goes_beside}
use Rattle.op_rules.specs.Operands.{Operand}

-- what an untyped operand is that is no shift: nil, a boolean that is no constant, or a constant of its kind
abbrev pub IsLoose : Kind → Option Const → Type 0
IsLoose kind None = (kind ≡ k.UntypedNil) ⊎ (kind ≡ k.UntypedBool)
IsLoose kind (Some c) = (is_untyped kind ≡ true) × Fits c kind

-- the type is no untyped one
abbrev pub IsTyped : GoType → Type 0
IsTyped of = (kind : Kind) → of ≡ BasicType kind → is_untyped kind ≡ false

-- it goes beside an operand of a type exactly where it is assignable to that type
abbrev pub GoesAsAssigned : Type 0
GoesAsAssigned =
    (ds : Declarations) (x : Operand) (kind : Kind) (to under : GoType) → x.of ≡ BasicType kind → IsLoose kind x.value → under_of ds to ≡ Some under
    → IsTyped under → IsTrue (goes_beside x under) ↔ Assignable ds x.of x.value NoMethod to

-- Of two types with basic underlying types a typed value of the one that is no constant is assignable to the other only where they are identical.
abbrev pub BasicsAreApart : Type 0
BasicsAreApart =
    (ds : Declarations) (v to : GoType) (set : GoMethods) (a b : Kind) → under_of ds v ≡ Some (BasicType a) → is_untyped a ≡ false
    → under_of ds to ≡ Some (BasicType b) → Assignable ds v None set to → Identical v to
