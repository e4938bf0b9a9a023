-- Pairs, one more at a time.
use Rattle.std.proofs.Common.{◌≡◌, ◌⊎◌, inl, inr, ℕ, zero, suc, ◌+◌, ◌<◌, ◌≤◌, Bool, true, false, ◌&&◌, Option, Some, None, refl, sym, ap, ◌∙◌, arith}
use Rattle.fix_apply.specs.declared.edits.Fix.{Fix}
use Rattle.vet_simple.specs.Assigning.{all_below, nth_fix}

and_false : (b : Bool) → (b && false) ≡ false
and_false true = refl
and_false false = refl

-- one that doesn't hold
pub below_fails : (test : ℕ → Bool) (i n : ℕ) → i < n → test i ≡ false → all_below test n ≡ false
below_fails test i zero low fails = absurd (omega arith)
below_fails test i (suc n) low fails = elim (split i n low) [
  | inl before ↦ ap (λ b. b && test n) (below_fails test i n before fails)
  | inr same ↦ ap (λ b. all_below test n && b) (ap test (sym same) ∙ fails) ∙ and_false (all_below test n)
] where
  split : (i n : ℕ) → i < suc n → (i < n) ⊎ (i ≡ n)
  split i n h = grind arith

next_is : (n : ℕ) → suc n ≡ n + 1
next_is n = omega arith

pub below_holds : (test : ℕ → Bool) (n : ℕ) → all_below test n ≡ true → test n ≡ true → all_below test (n + 1) ≡ true
below_holds test n all here = ap (all_below test) (sym (next_is n)) ∙ (ap (λ b. b && test n) all ∙ here)

pub next_fix : (fix : Option Fix) (i : ℕ) → nth_fix fix (i + 1) ≡ None
next_fix fix i = ap (nth_fix fix) (sym (next_is i))

pub below_end : (test : ℕ → Bool) (i n : ℕ) → n ≤ i → i ≤ n → all_below test i ≡ true → true ≡ all_below test n
below_end test i n low high all = let same : i ≡ n = omega arith in sym (ap (all_below test) (sym same) ∙ all)
