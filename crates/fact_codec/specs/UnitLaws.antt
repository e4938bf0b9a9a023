-- A kind with one fact, spelled as one byte.
use Rattle.std.proofs.Common.{◌≡◌, ℕ, true, cond, eqb, List, [], ◌∷◌, ◌++◌, Option, Some, None, refl, sym, ap, subst, ◌∙◌, inl, inr}
use Rattle.std.proofs.lemmas.Bool.{eqb-true, eq-eqb}
use Rattle.gv_bytes.specs.Reading.{Reads}
use Rattle.gv_bytes.proofs.Options.{chosen, some_is}
use Rattle.fact_codec.specs.Kinds.{byte_at}

pub one_byte_read : {A : Type 0} (b : ℕ) (fact : A) → ((x : A) → fact ≡ x) → Reads (λ (x : A). Unit {0}) (λ (x : A). b ∷ []) (byte_at b fact)
one_byte_read {A} b fact one = record { takes = take; again = λ x rest fits. again x rest }
  where
    take : (bytes : List ℕ) (x : A × List ℕ) → byte_at b fact bytes ≡ Some x → (bytes ≡ (b ∷ []) ++ x.1) × Unit {0}
    take [] x e = absurd cc
    take (c ∷ rest) x e =
        elim (chosen (eqb c b) (Some (fact, rest)) None (Some x) e) [
          | inl p ↦
              let front : c ≡ b = eqb-true c b p.0 in
              let back : rest ≡ x.1 = ap (λ (y : A × List ℕ). y.1) (some_is (fact, rest) x p.1) in
              (rw (front, back) refl, tt)
          | inr p ↦ absurd cc
        ]

    again : (x : A) (rest : List ℕ) → byte_at b fact (b ∷ rest) ≡ Some (x, rest)
    again x rest = let same : eqb b b ≡ true = eq-eqb b b refl in rw same (ap (λ (y : A). Some (y, rest)) (one x))
