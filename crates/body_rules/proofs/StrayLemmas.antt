-- `break` and `continue` with nothing to leave.
use Rattle.std.proofs.Common.{◌≡◌, ℕ, ◌↔◌, Bool, false, Option, Some, IsTrue, sym, ◌∙◌, subst}
use Rattle.body_rules.specs.declared.branches.Branch.{Branch}
use Rattle.body_rules.specs.Branches.{Leaves}
use Rattle.body_rules.specs.Files.{branch_at, is_undefined, IsStray}
use Rattle.body_rules.specs.Given.{Given}

pub stray_is : (f : Given) (n : ℕ) (which : Branch) (b : Bool) → branch_at f n ≡ Some which → is_undefined f n ≡ false
    → (IsTrue b ↔ ((t : ℕ) → Leaves which f.nodes f.labels n t → ⊥)) → IsTrue b ↔ IsStray f n
stray_is f n which b branch denoted is = (
  λ h. record { which = which; branch = branch; denoted = denoted; stray = is.0 h },
  λ s. is.1 (λ t leaves. s.stray t (subst (λ (x : Branch). Leaves x f.nodes f.labels n t) (same s) leaves)),
) where
  same : (s : IsStray f n) → which ≡ s.which
  same s = let e : Some which ≡ Some s.which = sym branch ∙ s.branch in cc
