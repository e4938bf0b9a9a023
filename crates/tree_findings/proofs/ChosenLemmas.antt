-- Fixes aren't without choices.
use Rattle.std.proofs.Common.{◌≡◌, ◌⊎◌, inl, inr, ℕ, zero, suc, ◌+◌, ◌<◌, ◌≤◌, List, [], ◌∷◌, ◌++◌, length, get_or, refl, sym, ap, ◌∙◌, subst, arith, append_assoc}
use Rattle.std.proofs.lemmas.Bool.{cases_lt}
use Rattle.std.proofs.lemmas.List.{append-nil, get_or_append_left, length-append}
use Rattle.fix_apply.specs.declared.edits.Fix.{Fix}
use Rattle.fix_apply.specs.declared.choices.Choice.{Choice}
use Rattle.fix_apply.specs.declared.choices.Choice.TheVariants.{Applied, Overlaps}
use Rattle.fix_apply.specs.Choices.{fix_at, choice_at, Clash, Blocks, IsRight, Chosen}

-- what holds or doesn't can't be denied
either : {A : Type 0} → ((A ⊎ (A → ⊥)) → ⊥) → ⊥
either k = k (inr (λ a. k (inl a)))

-- the least number below this one of which it holds, or it holds of none below
abbrev Least : (ℕ → Type 0) → ℕ → Type 0
Least P n = ((k : ℕ) × (k < n) × P k × ((j : ℕ) → j < k → P j → ⊥)) ⊎ ((k : ℕ) → k < n → P k → ⊥)

least : (P : ℕ → Type 0) (n : ℕ) → (Least P n → ⊥) → ⊥
least P zero none = none (inr (λ k lt. absurd (omega (arith, lt))))
least P (suc n) none = least P n (λ cases. elim cases [
  | inl found ↦ none (inl (found.0, (let l = found.1 in omega (arith, l)), found.2, found.3))
  | inr clear ↦ either (λ (here : P n ⊎ (P n → ⊥)). elim here [
    | inl yes_here ↦ none (inl (n, omega arith, yes_here, clear))
    | inr not_here ↦ none (inr (λ k lt p. elim (cases_lt k n) [
      | inl low ↦ clear k low p
      | inr high ↦ not_here (subst P (let e : k ≡ n = omega (arith, lt, high) in e) p)
    ]))
  ])
])

module _ (fixes : List Fix) (f : Fix) (choices : List Choice) (c : Choice) (size : length choices ≡ length fixes) where
  abbrev more_fixes : List Fix
  more_fixes = fixes ++ f ∷ []

  abbrev more_choices : List Choice
  more_choices = choices ++ c ∷ []

  same-fix : (k : ℕ) → k < length fixes → fix_at more_fixes k ≡ fix_at fixes k
  same-fix k lt = get_or_append_left fixes (f ∷ []) (record { file = 0; edits = [] }) k lt

  same-choice : (k : ℕ) → k < length fixes → choice_at more_choices k ≡ choice_at choices k
  same-choice k lt = get_or_append_left choices (c ∷ []) Applied k (omega (arith, lt, size))

  -- what blocks an earlier fix is as before
  onward : (k n : ℕ) → n < length fixes → Blocks fixes choices k n → Blocks more_fixes more_choices k n
  onward k n lt b =
      let before = b.before in
      let low : k < length fixes = omega (arith, lt, before) in
      record { before = before; applied = same-choice k low ∙ b.applied; clash = subst (λ x. Clash x (fix_at more_fixes n)) (sym (same-fix k low)) (subst (Clash (fix_at fixes k)) (sym (same-fix n lt)) b.clash) }

  back : (k n : ℕ) → n < length fixes → Blocks more_fixes more_choices k n → Blocks fixes choices k n
  back k n lt b =
      let before = b.before in
      let low : k < length fixes = omega (arith, lt, before) in
      record { before = before; applied = sym (same-choice k low) ∙ b.applied; clash = subst (λ x. Clash x (fix_at fixes n)) (same-fix k low) (subst (Clash (fix_at more_fixes k)) (same-fix n lt) b.clash) }

  right-still : (n : ℕ) → n < length fixes → (x : Choice) → IsRight fixes choices n x → IsRight more_fixes more_choices n x
  right-still n lt Applied r = λ k b. r k (back k n lt b)
  right-still n lt (Overlaps first) r = (onward first n lt r.0, λ k low b. r.1 k low (back k n lt b))

  last-choice : choice_at more_choices (length fixes) ≡ c
  last-choice = ap (choice_at more_choices) (sym size) ∙ at choices
    where
      at : (cs : List Choice) → choice_at (cs ++ c ∷ []) (length cs) ≡ c
      at [] = refl
      at (x ∷ xs) = at xs

  chosen-more : Chosen fixes choices → IsRight more_fixes more_choices (length fixes) c → Chosen more_fixes more_choices
  chosen-more h last =
      let a : length more_fixes ≡ length fixes + 1 = length-append fixes (f ∷ []) in
      let b : length more_choices ≡ length choices + 1 = length-append choices (c ∷ []) in
      record {
        size = omega (arith, a, b, size);
        each = λ n lt. elim (cases_lt n (length fixes)) [
          | inl low ↦ right-still n low (choice_at more_choices n) (subst (IsRight fixes choices n) (sym (same-choice n low)) (h.each n low))
          | inr high ↦ subst (λ m. IsRight more_fixes more_choices m (choice_at more_choices m)) (let e : length fixes ≡ n = omega (arith, lt, high, a) in e)
              (subst (IsRight more_fixes more_choices (length fixes)) (sym last-choice) last)
        ];
      }

-- whether an earlier fix blocks doesn't depend on the choice of the fix itself
blocks-other : (fixes : List Fix) (f : Fix) (choices : List Choice) (c d : Choice) (k : ℕ) → length choices ≡ length fixes → Blocks (fixes ++ f ∷ []) (choices ++ c ∷ []) k (length fixes) → Blocks (fixes ++ f ∷ []) (choices ++ d ∷ []) k (length fixes)
blocks-other fixes f choices c d k size b =
    let low : k < length fixes = b.before in
    record { before = b.before; applied = same-choice fixes f choices d size k low ∙ (sym (same-choice fixes f choices c size k low) ∙ b.applied); clash = b.clash }

one-more : (fixes : List Fix) (f : Fix) (choices : List Choice) → Chosen fixes choices → ((c : Choice) → Chosen (fixes ++ f ∷ []) (choices ++ c ∷ []) → ⊥) → ⊥
one-more fixes f choices h none = least (λ k. Blocks (fixes ++ f ∷ []) (choices ++ Applied ∷ []) k (length fixes)) (length fixes) (λ cases. elim cases [
  | inl found ↦ none (Overlaps found.0) (chosen-more fixes f choices (Overlaps found.0) h.size h
      (blocks-other fixes f choices Applied (Overlaps found.0) found.0 h.size found.2, λ k low b. found.3 k low (blocks-other fixes f choices (Overlaps found.0) Applied k h.size b)))
  | inr clear ↦ none Applied (chosen-more fixes f choices Applied h.size h (λ k b. clear k b.before b))
])

-- the fixes from a front on
from-front : (front rest : List Fix) (choices : List Choice) → Chosen front choices → ((all : List Choice) → Chosen (front ++ rest) all → ⊥) → ⊥
from-front front [] choices h none = none choices (subst (λ fs. Chosen fs choices) (sym (append-nil front)) h)
from-front front (f ∷ rest) choices h none = one-more front f choices h (λ c more. from-front (front ++ f ∷ []) rest (choices ++ c ∷ []) more
    (λ all whole. none all (subst (λ fs. Chosen fs all) (append_assoc front (f ∷ []) rest) whole)))

-- no fixes are without choices
pub choices-exist : (fixes : List Fix) → ((choices : List Choice) → Chosen fixes choices → ⊥) → ⊥
choices-exist fixes none = from-front [] fixes [] (record { size = refl; each = λ n lt. absurd (omega (arith, lt)) }) none
