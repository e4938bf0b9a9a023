-- Tests of order, and what they say.
use Rattle.std.proofs.Common.{◌≡◌, ℕ, zero, suc, ◌+◌, ◌⊎◌, inl, inr, Bool, true, false, cond, List, [], ◌∷◌, slice_get, Some, refl, sym, ap, subst, ◌∙◌, arith}
use Rattle.std.specs.declared.cmp.Ordering.{Ordering}
use Rattle.std.specs.declared.cmp.Ordering.TheVariants.{Less, Equal, Greater}
use Rattle.std.specs.Ordering.{is_lt, nat_cmp, ordering_then}
use Rattle.std.specs.Cmp.Lexicographic.{slice_cmp}
use Rattle.std.proofs.lemmas.Cmp.{nat_list_cmp_total, tied_itself}
use Rattle.gv_base.proofs.FileLemmas.{same-path}
use Rattle.gv_bytes.proofs.Options.{some_is}
use Rattle.type_model.specs.declared.term.Method.{Method}
use Rattle.type_model.specs.GoTypes.{GoType, GoMethods, NoMethod, AndMethod, methods_of}
use Rattle.type_model.specs.Parts.{GoMethod, method_list}
use Rattle.type_model.specs.Orders.{IsBefore, ComesBefore, AreInOrder}
use Rattle.type_model.specs.Identity.{AreSorted}
use Rattle.package_faces.specs.Orders.{stands_before}
use Rattle.type_texts.specs.Orders.{methods_rise, methods_rise_after}

less_is : (o : Ordering) → is_lt o ≡ true → o ≡ Less
less_is Less e = refl
less_is Equal e = absurd cc
less_is Greater e = absurd cc

then_less : (a b : Ordering) → is_lt (ordering_then a b) ≡ true → (a ≡ Less) ⊎ ((a ≡ Equal) × (b ≡ Less))
then_less Less b e = inl refl
then_less Equal b e = inr (refl, less_is b e)
then_less Greater b e = absurd cc

pub is_before : (name owner other its_owner : List ℕ) → stands_before name owner other its_owner ≡ true → IsBefore name owner other its_owner
is_before name owner other its_owner e =
    elim (then_less (slice_cmp nat_cmp name other) (slice_cmp nat_cmp owner its_owner) e) [
      | inl less ↦ inl less
      | inr tie ↦ inr (same-path name other tie.0, tie.1)
    ]

pub before_stands : (name owner other its_owner : List ℕ) → IsBefore name owner other its_owner → stands_before name owner other its_owner ≡ true
before_stands name owner other its_owner h =
    elim h [
      | inl less ↦ ap (λ (o : Ordering). is_lt (ordering_then o (slice_cmp nat_cmp owner its_owner))) less
      | inr tie ↦
          let equal : slice_cmp nat_cmp name other ≡ Equal = ap (slice_cmp nat_cmp name) (sym tie.0) ∙ tied_itself nat_list_cmp_total name in
          ap (λ (o : Ordering). is_lt (ordering_then o (slice_cmp nat_cmp owner its_owner))) equal ∙ ap is_lt tie.1
    ]

pub both_hold : (b x : Bool) → cond b x false ≡ true → (b ≡ true) × (x ≡ true)
both_hold true x e = (refl, e)
both_hold false x e = absurd cc

pub both_held : (b x : Bool) → b ≡ true → x ≡ true → cond b x false ≡ true
both_held true x p q = q
both_held false x p q = absurd cc

-- ---- methods that rise stand in order

after_in_order : (T : List GoType) (m : Method) (methods : List Method) → methods_rise_after m.name m.package (methods_of T methods) ≡ true → AreInOrder (m ∷ methods)
after_in_order T m [] e zero a b at next = absurd cc
after_in_order T m [] e (suc k) a b at next = absurd cc
after_in_order T m (x ∷ methods) e zero a b at next =
    let held = both_hold (stands_before m.name m.package x.name x.package) (methods_rise_after x.name x.package (methods_of T methods)) e in
    let before : ComesBefore m x = is_before m.name m.package x.name x.package held.0 in
    subst (λ (z : Method). ComesBefore a z) (some_is x b next) (subst (λ (y : Method). ComesBefore y x) (some_is m a at) before)
after_in_order T m (x ∷ methods) e (suc k) a b at next =
    let held = both_hold (stands_before m.name m.package x.name x.package) (methods_rise_after x.name x.package (methods_of T methods)) e in
    let step : suc k + 1 ≡ suc (k + 1) = omega arith in
    let there : slice_get (x ∷ methods) (k + 1) ≡ Some b = ap (slice_get (m ∷ x ∷ methods)) (sym step) ∙ next in
    after_in_order T x methods held.1 k a b at there

pub rise_in_order : (T : List GoType) (methods : List Method) → methods_rise (methods_of T methods) ≡ true → AreInOrder methods
rise_in_order T [] e k a b at next = absurd cc
rise_in_order T (m ∷ methods) e k a b at next = after_in_order T m methods e k a b at next

-- ---- methods in order rise

sorted_after : (m : GoMethod) (methods : GoMethods) → AreSorted (m ∷ method_list methods) → methods_rise_after m.name m.owner methods ≡ true
sorted_after m NoMethod h = refl
sorted_after m (AndMethod name owner pointer of methods) h =
    let first = before_stands m.name m.owner name owner (h 0 m (record { name = name; owner = owner; pointer = pointer; of = of }) refl refl) in
    let rest = sorted_after (record { name = name; owner = owner; pointer = pointer; of = of }) methods (λ k a b at next.
    let step : suc k + 1 ≡ suc (k + 1) = omega arith in
    h (suc k) a b at (ap (slice_get (m ∷ record { name = name; owner = owner; pointer = pointer; of = of } ∷ method_list methods)) step ∙ next)) in
    both_held (stands_before m.name m.owner name owner) (methods_rise_after name owner methods) first rest

pub sorted_rise : (methods : GoMethods) → AreSorted (method_list methods) → methods_rise methods ≡ true
sorted_rise NoMethod h = refl
sorted_rise (AndMethod name owner pointer of methods) h = sorted_after (record { name = name; owner = owner; pointer = pointer; of = of }) methods h
