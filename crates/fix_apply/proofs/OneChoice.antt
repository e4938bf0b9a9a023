-- Fixes have one list of choices.
use Rattle.std.proofs.Common.{◌≡◌, ◌<◌, ◌≤◌, ℕ, zero, suc, List, length, refl, sym, ap, ◌∙◌, subst, ⊎_elim, arith}
use Rattle.std.proofs.lemmas.Bool.{cases_lt}
use Rattle.std.proofs.lemmas.List.{ext_get_or}
use Rattle.fix_apply.specs.declared.edits.Fix.{Fix}
use Rattle.fix_apply.specs.declared.choices.Choice.{Choice}
use Rattle.fix_apply.specs.declared.choices.Choice.TheVariants.{Applied, Overlaps}
use Rattle.fix_apply.specs.Choices.{choice_at, IsRight, Chosen}
use Rattle.fix_apply.proofs.ClaimSteps.{blocks_move}

-- two right choices of a fix are the same where those before it are
one_right : (fixes : List Fix) (a b : List Choice) (number : ℕ) (c d : Choice) → ((e : ℕ) → e < number → choice_at a e ≡ choice_at b e) → IsRight fixes a number c → IsRight fixes b number d → c ≡ d
one_right fixes a b number Applied Applied same x y = refl
one_right fixes a b number Applied (Overlaps first) same x y = absurd (x first (blocks_move fixes b a first number (same first y.0.before) y.0))
one_right fixes a b number (Overlaps first) Applied same x y = absurd (y first (blocks_move fixes a b first number (sym (same first x.0.before)) x.0))
one_right fixes a b number (Overlaps first) (Overlaps other) same x y = ⊎_elim
    (λ (less : first < other). absurd (y.1 first less (blocks_move fixes a b first number (sym (same first x.0.before)) x.0)))
    (λ (more : other ≤ first). ⊎_elim
    (λ (less : other < first). absurd (x.1 other less (blocks_move fixes b a other number (same other y.0.before) y.0)))
    (λ (equal : first ≤ other). let one : first ≡ other = omega arith in ap Overlaps one)
    (cases_lt other first))
    (cases_lt first other)

same_below : (fixes : List Fix) (a b : List Choice) (count : ℕ) → Chosen fixes a → Chosen fixes b → count ≤ length fixes → (number : ℕ) → number < count → choice_at a number ≡ choice_at b number
same_below fixes a b zero x y within number below = absurd (omega arith)
same_below fixes a b (suc count) x y within number below = ⊎_elim
    (λ (early : number < count). same_below fixes a b count x y (omega arith) number early)
    (λ (late : count ≤ number).
    let here : number ≡ count = omega arith in
    subst (λ (n : ℕ). choice_at a n ≡ choice_at b n) (sym here)
    (one_right fixes a b count (choice_at a count) (choice_at b count) (same_below fixes a b count x y (omega arith)) (x.each count (omega arith)) (y.each count (omega arith))))
    (cases_lt number count)

pub one_choice : (fixes : List Fix) (a b : List Choice) → Chosen fixes a → Chosen fixes b → b ≡ a
one_choice fixes a b x y = ext_get_or Applied b a (y.size ∙ sym x.size) (λ i below. sym (same_below fixes a b (length fixes) x y (omega arith) i (omega (arith, y.size))))
