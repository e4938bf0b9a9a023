use Rattle.std.proofs.Common.{ℕ, List, subst}
use Rattle.go_tree.specs.declared.tree.Node.{Node}
use Rattle.go_tree.proofs.NodeLemmas.{differ}
use Rattle.shadowed_results.specs.Early.{MayShadow}
use Rattle.shadowed_results.proofs.EarlyLemmas.{none_shadowed}
use Rattle.shadowed_results.proofs.shadowed.shadowed_returns.Goals as goal

pub returns-then-not-any_may_shadow : goal.returns-then-not-any_may_shadow
returns-then-not-any_may_shadow c =
    none_shadowed c.args.bytes.now c.args.tree.now c.spelled_nodes.ensures.tree
    (subst (λ (l : List Node). (f n : ℕ) → MayShadow l f n → ⊥) c.as_slice.ensures
    (λ f n may. differ c.any_may_shadow.result c.if-not-any_may_shadow.true (c.any_may_shadow.ensures.1 (f, n, may)))) c.in_ok-none.none.items c.in_ok-none.ensures
