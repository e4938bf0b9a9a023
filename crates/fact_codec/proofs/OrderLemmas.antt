-- Names that rise stand in order, and the other way.
use Rattle.std.proofs.Common.{◌≡◌, ℕ, zero, suc, ◌<◌, List, [], ◌∷◌, length, Bool, true, false, cond, All, AllPairs, IsTrue, refl, subst, arith, inl, inr}
use Rattle.std.proofs.lemmas.List.Elements.{All-cons}
use Rattle.std.proofs.lemmas.List.Kept.{AllPairs-cons}
use Rattle.gv_bytes.proofs.Options.{chosen}
use Rattle.gv_base.specs.Files.{is_before}
use Rattle.gv_base.proofs.FileLemmas.{before-trans}
use Rattle.fact_codec.specs.Tables.{AreInOrder, rises_from, names_rise}

module _ {F : Type 0} where
  both : (name : List ℕ) (e : List ℕ × F) (es : List (List ℕ × F)) → rises_from name (e ∷ es) ≡ true → (is_before name e.0 ≡ true) × (rises_from e.0 es ≡ true)
  both name e es h = elim (chosen (is_before name e.0) (rises_from e.0 es) false true h) [
    | inl p ↦ (p.0, p.1)
    | inr p ↦ absurd cc
  ]

  later : (name : List ℕ) (es : List (List ℕ × F)) → rises_from name es ≡ true → All (λ e. is_before name e.0 ≡ true) es
  later name [] h = λ k d lt. absurd (omega (arith, lt))
  later name (e ∷ es) h =
      let t = both name e es h in
      let rest = later e.0 es t.1 in
      All-cons (λ (f : List ℕ × F). is_before name f.0 ≡ true) e es t.0 (λ k d lt. before-trans name e.0 _ t.0 (rest k d lt))

  pairs_from : (name : List ℕ) (es : List (List ℕ × F)) → rises_from name es ≡ true → AreInOrder es
  pairs_from name [] h = λ i j d lt hi. absurd (omega (arith, hi))
  pairs_from name (e ∷ es) h =
      let t = both name e es h in
      AllPairs-cons (λ (x y : List ℕ × F). is_before x.0 y.0 ≡ true) e es (later e.0 es t.1) (pairs_from e.0 es t.1)

  pub order_risen : (es : List (List ℕ × F)) → names_rise es ≡ true → AreInOrder es
  order_risen [] h = λ i j d lt hi. absurd (omega (arith, hi))
  order_risen (e ∷ es) h = AllPairs-cons (λ (x y : List ℕ × F). is_before x.0 y.0 ≡ true) e es (later e.0 es h) (pairs_from e.0 es h)

  rises_in : (e : List ℕ × F) (es : List (List ℕ × F)) → AreInOrder (e ∷ es) → rises_from e.0 es ≡ true
  rises_in e [] h = refl
  rises_in e (f ∷ fs) h =
      let first : is_before e.0 f.0 ≡ true = h 0 1 e (omega arith) (omega arith) in
      rw first (rises_in f fs (λ i j d lt hi. h (suc i) (suc j) d (omega (arith, lt)) (omega (arith, hi))))

  pub risen_order : (es : List (List ℕ × F)) → AreInOrder es → names_rise es ≡ true
  risen_order [] h = refl
  risen_order (e ∷ es) h = rises_in e es h
