-- What the conversion of constants stands for (Go 1.17, "Conversions").
use Rattle.std.specs.Prelude.{◌≡◌, ◌↔◌, IsTrue, true, false, Some}
use Rattle.gv_base.specs.declared.constant.Const.{Const}
use Rattle.gv_base.specs.declared.constant.Kind.{Kind}
use Rattle.gv_base.specs.Fits.{Fits}
use Rattle.type_model.specs.Declarations.{Declarations, under_of}
use Rattle.type_model.specs.GoTypes.{GoType, BasicType, NoMethod}
use Rattle.type_rel.specs.Converting.{Convertible}
use Rattle.type_rel.specs.Kinds.{is_untyped}
use Rattle.call_rules.specs.Converting.{is_convertible}

-- a type whose underlying type is basic, and of whose values the constant is one; an untyped type is none but itself
pub record IsConstantOf (ds : Declarations) (of : GoType) (kind : Kind) (c : Const) : Type 0 where
  pub under : under_of ds of ≡ Some (BasicType kind)
  pub untyped : is_untyped kind ≡ true → of ≡ BasicType kind
  pub fits : Fits c kind

-- A constant is convertible to a type with a basic underlying type exactly where the test says so.
abbrev pub ConstantsConvert : Type 0
ConstantsConvert =
    (ds : Declarations) (v to : GoType) (a kind : Kind) (c : Const) → IsConstantOf ds v a c → under_of ds to ≡ Some (BasicType kind) → is_untyped kind ≡ false
    → IsTrue (is_convertible c kind) ↔ Convertible ds v (Some c) NoMethod to
