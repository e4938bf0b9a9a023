-- Default clauses before a place.
use Rattle.std.proofs.Common.{◌≡◌, ◌<◌, ◌-◌, ℕ, zero, suc, Bool, true, false, ◌||◌, List, sym, ap, ◌∙◌, arith}
use Rattle.go_tree.specs.declared.tree.Node.{Node}
use Rattle.statement_rules.specs.Switching.{is_default_at, any_before}

pub before_on : (nodes : List Node) (around : Node) (i : ℕ) → 0 < i → is_default_at nodes around (i - 1) ≡ false → any_before nodes around i ≡ any_before nodes around (i - 1)
before_on nodes around zero low is = absurd (omega arith)
before_on nodes around (suc i) low is =
    let e : suc i - 1 ≡ i = omega arith in
    ap (λ (b : Bool). b || any_before nodes around i) (sym (ap (is_default_at nodes around) e) ∙ is) ∙ sym (ap (any_before nodes around) e)

pub before_found : (nodes : List Node) (around : Node) (i : ℕ) → 0 < i → is_default_at nodes around (i - 1) ≡ true → any_before nodes around i ≡ true
before_found nodes around zero low is = absurd (omega arith)
before_found nodes around (suc i) low is =
    let e : suc i - 1 ≡ i = omega arith in ap (λ (b : Bool). b || any_before nodes around i) (sym (ap (is_default_at nodes around) e) ∙ is)
