-- What is gained where two things hold at once.
use Rattle.std.proofs.Common.{◌≡◌, ◌↔◌, Bool, true, false, List, [], ◌∷◌, ◌++◌, refl, sym, ap, ◌∙◌, subst}
use Rattle.findings.specs.Gains.{Gains}
use Rattle.findings.proofs.GainLemmas.{gains_none, gains_push}

-- what a test tells holds, and one thing is gained
pub gains_held : {A : Type 0} (P : Type 0) (b : Bool) (r : A) (old new : List A) → (b ≡ true) ↔ P → b ≡ true → new ≡ old ++ r ∷ [] → Gains (λ (d : A). P × (d ≡ r)) old new
gains_held {A} P b r old new tells held is = gains_push (λ (d : A). P × (d ≡ r)) old new r is (tells.0 held, refl) (λ x (p, e). e)

pub gains_unheld : {A : Type 0} (P : Type 0) (b : Bool) (r : A) (list : List A) → (b ≡ true) ↔ P → b ≡ false → Gains (λ (d : A). P × (d ≡ r)) list list
gains_unheld {A} P b r list tells failed = gains_none (λ (d : A). P × (d ≡ r)) list list refl (λ x (p, e). differ b failed (tells.1 p)) where
  differ : (b : Bool) → b ≡ false → b ≡ true → ⊥
  differ b p q = cc

-- both of two
pub both_first : (P : Type 0) (a : Bool) → a ≡ false → (false ≡ true) ↔ ((a ≡ true) × P)
both_first P a failed = (λ e. absurd cc, λ (h, p). absurd (differ a failed h)) where
  differ : (b : Bool) → b ≡ false → b ≡ true → ⊥
  differ b p q = cc

pub both_second : (P : Type 0) (a b : Bool) → a ≡ true → (b ≡ true) ↔ P → (b ≡ true) ↔ ((a ≡ true) × P)
both_second P a b held tells = (λ e. (held, tells.0 e), λ (h, p). tells.1 p)
