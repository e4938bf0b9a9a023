-- Parentheses around a node, one after the other; new names among the first few.
use Rattle.std.proofs.Common.{◌≡◌, ℕ, suc, ◌+◌, Bool, ◌||◌, List, Option, slice_get, ap, ◌∙◌, arith}
use Rattle.unit_read.specs.Units.{Unit}
use Rattle.assign_rules.specs.Around.{outside, wrapped}
use Rattle.assign_rules.specs.Assigning.{is_new_at, any_new}

next_is : (i : ℕ) → suc i ≡ i + 1
next_is i = omega arith

pub wrapped_on : (u : Unit) (file n i at next : ℕ) → at ≡ wrapped u file i n → next ≡ outside u file at → next ≡ wrapped u file (i + 1) n
wrapped_on u file n i at next was is = is ∙ (ap (outside u file) was ∙ ap (λ k. wrapped u file k n) (next_is i))

pub new_on : (u : Unit) (file : ℕ) (list : List ℕ) (i : ℕ) (o : Option ℕ) (found x next : Bool) → found ≡ any_new u file list i → o ≡ slice_get list i → x ≡ is_new_at u file o
    → next ≡ (found || x) → next ≡ any_new u file list (i + 1)
new_on u file list i o found x next was here told is =
    is ∙ (ap (λ f. f || x) was ∙ (ap (λ b. any_new u file list i || b) (told ∙ ap (is_new_at u file) here) ∙ ap (any_new u file list) (next_is i)))
