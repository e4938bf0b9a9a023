-- Types whose underlying types are basic.
use Rattle.std.proofs.Common.{◌≡◌, ◌⊎◌, Bool, true, false, Option, Some, None, inl, inr, refl, sym, ap, ◌∙◌}
use Rattle.gv_base.specs.declared.constant.Kind.{Kind}
use Rattle.gv_base.specs.declared.constant.Kind.TheVariants.{UntypedBool}
use Rattle.type_model.specs.Declarations.{Declarations, under_of}
use Rattle.type_model.specs.GoTypes.{GoType, BasicType, DefinedType, PointerTo, SliceOf, ArrayOf, MapOf, ChanOf, FuncOf, StructOf, InterfaceOf}
use Rattle.type_rel.specs.Assigning.{counts_as_defined, holds_nil, Identicals, SameUnder, Implementing, Narrowing, Nils, Represented, ByDefault, UntypedTruths}
use Rattle.type_rel.specs.Kinds.{is_untyped}
use Rattle.op_rules.specs.Loose.{BasicsAreApart}

-- such a type counts as defined
basic_is_defined : (ds : Declarations) (t : GoType) (a : Kind) → under_of ds t ≡ Some (BasicType a) → counts_as_defined t ≡ true
basic_is_defined ds (BasicType kind) a e = refl
basic_is_defined ds (DefinedType name) a e = refl
basic_is_defined ds (PointerTo of) a e = absurd cc
basic_is_defined ds (SliceOf of) a e = absurd cc
basic_is_defined ds (ArrayOf size of) a e = absurd cc
basic_is_defined ds (MapOf key of) a e = absurd cc
basic_is_defined ds (ChanOf direction of) a e = absurd cc
basic_is_defined ds (FuncOf of) a e = absurd cc
basic_is_defined ds (StructOf fields) a e = absurd cc
basic_is_defined ds (InterfaceOf methods) a e = absurd cc

both_defined : (a b : Bool) → a ≡ true → b ≡ true → (a ≡ false) ⊎ (b ≡ false) → ⊥
both_defined a b p q (inl e) = cc
both_defined a b p q (inr e) = cc

pub one_under : {T : Type 0} (o : Option T) (a b : T) → o ≡ Some a → o ≡ Some b → a ≡ b
one_under o a b p q = cc

basic_holds_none : (b : Kind) (under : GoType) → under ≡ BasicType b → holds_nil under ≡ true → ⊥
basic_holds_none b under e holds = let never : false ≡ true = sym (ap holds_nil e) ∙ holds in cc

untyped_truth : (ds : Declarations) (v : GoType) (a : Kind) → v ≡ BasicType UntypedBool → under_of ds v ≡ Some (BasicType a) → is_untyped a ≡ false → ⊥
untyped_truth ds v a e va typed =
    let at : Some (BasicType UntypedBool) ≡ Some (BasicType a) = sym (ap (under_of ds) e) ∙ va in
    let one : UntypedBool ≡ a = cc in
    let never : true ≡ false = ap is_untyped one ∙ typed in cc

pub apart : BasicsAreApart
apart ds v to set a b va typed tb (Identicals same) = same
apart ds v to set a b va typed tb (SameUnder under other p q same one) =
    absurd (both_defined (counts_as_defined v) (counts_as_defined to) (basic_is_defined ds v a va) (basic_is_defined ds to b tb) one)
apart ds v to set a b va typed tb (Implementing wanted p provides) =
    absurd (let never : InterfaceOf wanted ≡ BasicType b = one_under (under_of ds to) (InterfaceOf wanted) (BasicType b) p tb in cc)
apart ds v to set a b va typed tb (Narrowing direction of other p q same one) =
    absurd (both_defined (counts_as_defined v) (counts_as_defined to) (basic_is_defined ds v a va) (basic_is_defined ds to b tb) one)
apart ds v to set a b va typed tb (Nils under nil p holds) = absurd (basic_holds_none b under (one_under (under_of ds to) under (BasicType b) p tb) holds)
apart ds v to set a b va typed tb (Represented kind wide c e free value p fits) = absurd (let never : None ≡ Some c = value in cc)
apart ds v to set a b va typed tb (ByDefault kind c wanted e free value p provides) = absurd (let never : None ≡ Some c = value in cc)
apart ds v to set a b va typed tb (UntypedTruths e p) = absurd (untyped_truth ds v a e va typed)
