-- Parentheses, one after the other.
use Rattle.std.proofs.Common.{◌≡◌, ℕ, suc, ◌+◌, List, sym, ap, ◌∙◌, arith}
use Rattle.go_tree.specs.declared.tree.Node.{Node}
use Rattle.variable_rules.specs.Forms.{peeled, inside_at}

pub peeled_on : (nodes : List Node) (n i at next : ℕ) → at ≡ peeled nodes i n → next ≡ inside_at nodes at → next ≡ peeled nodes (i + 1) n
peeled_on nodes n i at next was is = is ∙ (ap (inside_at nodes) was ∙ (let e : suc i ≡ i + 1 = omega arith in ap (λ k. peeled nodes k n) e))
