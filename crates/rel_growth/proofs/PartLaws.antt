-- What stands below a type.
use Rattle.std.specs.Prelude.{IsTrue}
use Rattle.std.proofs.Common.{◌≡◌, ◌↔◌, inl, inr, ℕ, ◌<◌, Bool, false, List, Some, None, option_map, IfSome, refl, sym, ap, ◌∙◌, subst, arith}
use Rattle.type_model.specs.declared.term.TypeId.{TypeId}
use Rattle.type_model.specs.declared.term.TypeName.{TypeName}
use Rattle.type_model.specs.declared.term.Term.{Term}
use Rattle.type_model.specs.declared.term.Term.TheVariants.{Pointer, Slice}
use Rattle.type_model.specs.declared.table.TypeTable.{TypeTable}
use Rattle.type_model.specs.GoTypes.{GoType, PointerTo, SliceOf, type_at, type_of, IsOver}
use Rattle.type_model.specs.Declarations.{Declarations, under_of}
use Rattle.type_model.specs.Tables.{types_in, count, declarations_in}
use Rattle.type_growth.specs.Growth.{IsKnown, IsMissing}
use Rattle.type_growth.proofs.GrowthLaws.{under_known, none_missing}
use Rattle.rel_growth.specs.Convert.{IsBelow, IsKnownBelow, IsAwaitedBelow, part_of, part_in}

pub part_seen : (types : List GoType) (term : Term) → option_map (λ id. type_at types id) (part_in term) ≡ part_of (type_of types term)
part_seen types (Pointer of) = refl
part_seen types (Slice of) = refl
part_seen types term = refl

pub part_below : (m n : ℕ) (term : Term) → IsOver m term → m < n → IfSome (part_in term) (λ id. id.0 < n)
part_below m n (Pointer of) over low = omega (arith, over, low)
part_below m n (Slice of) over low = omega (arith, over, low)
part_below m n term over low = tt

some_once : {X : Type 0} (a b : X) → Some a ≡ Some b → a ≡ b
some_once a b e = cc

below_part : (ds : Declarations) (of u p : GoType) → under_of ds of ≡ Some u → IsBelow ds of p → part_of u ≡ Some p
below_part ds of u p under (inl is) = ap part_of (some_once u (PointerTo p) (sym under ∙ is))
below_part ds of u p under (inr is) = ap part_of (some_once u (SliceOf p) (sym under ∙ is))

part_is_below : (ds : Declarations) (of u p : GoType) → under_of ds of ≡ Some u → part_of u ≡ Some p → IsBelow ds of p
part_is_below ds of (PointerTo x) p under is = inl (under ∙ ap (λ (y : GoType). Some (PointerTo y)) (some_once x p is))
part_is_below ds of (SliceOf x) p under is = inr (under ∙ ap (λ (y : GoType). Some (SliceOf y)) (some_once x p is))
part_is_below ds of u p under is = absurd cc

module _ (t : TypeTable) (of u : GoType) (under : under_of (declarations_in t) of ≡ Some u) where
  pub no_part_known : None ≡ part_of u → IsKnownBelow (declarations_in t) of
  no_part_known none = (under_known (declarations_in t) of u under, λ p below. let is = below_part (declarations_in t) of u p under below in absurd cc)

  pub part_known : (p : GoType) → Some p ≡ part_of u → IsKnown (declarations_in t) p → IsKnownBelow (declarations_in t) of
  part_known p is known = (
    under_known (declarations_in t) of u under,
    λ q below.
        subst (λ (x : GoType). IsKnown (declarations_in t) x) (some_once p q (is ∙ below_part (declarations_in t) of u q under below)) known,
  )

  pub part_missing : (id : TypeId) (o : TypeName) → id.0 < count t → Some (type_at (types_in t) id) ≡ part_of u → IsMissing (declarations_in t) (type_at (types_in t) id) o → IsAwaitedBelow t of id
  part_missing id o low is missing = (o, low, missing.0, inr (type_at (types_in t) id, part_is_below (declarations_in t) of u (type_at (types_in t) id) under (sym is), missing))

pub itself_missing : (t : TypeTable) (id : TypeId) → id.0 < count t → under_of (declarations_in t) (type_at (types_in t) id) ≡ None → IsAwaitedBelow t (type_at (types_in t) id) id
itself_missing t id low none = let m = none_missing (declarations_in t) (type_at (types_in t) id) none in (m.0, low, m.1.0, inl m.1)

pub untrue : (X : Type 0) (b : Bool) → b ≡ false → IsTrue b ↔ X → X → ⊥
untrue X b is truth x = let yes_it : IsTrue b = truth.1 x in absurd cc
