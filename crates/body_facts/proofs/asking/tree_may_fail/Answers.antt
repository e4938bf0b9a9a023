use Rattle.std.proofs.Common.{◌≡◌, ◌↔◌, ◌≤◌, ◌^◌, true, List, length, sym, subst}
use Rattle.go_tree.specs.declared.tree.Node.{Node}
use Rattle.node_values.specs.Ranges.{IsTiled}
use Rattle.node_values.specs.Trees.{IsTree}
use Rattle.body_facts.specs.Asking.{MayFail}
use Rattle.body_facts.proofs.asking.tree_may_fail.Goals as goal

pub may_fail-requires-clause-few : goal.may_fail-requires-clause-few
may_fail-requires-clause-few c = subst (λ (l : List Node). length l ≤ 2 ^ 32) (sym c.as_slice.ensures) c.requires.few

pub may_fail-requires-clause-tree : goal.may_fail-requires-clause-tree
may_fail-requires-clause-tree c = subst (λ (l : List Node). IsTree l) (sym c.as_slice.ensures) c.spelled_nodes.ensures.tree

pub may_fail-requires-clause-tiled : goal.may_fail-requires-clause-tiled
may_fail-requires-clause-tiled c = subst (λ (l : List Node). IsTiled l) (sym c.as_slice.ensures) c.spelled_nodes.ensures.tiled

pub returns : goal.returns
returns c = subst (λ (l : List Node). (c.in_ok-may.may ≡ true) ↔ MayFail l) c.as_slice.ensures c.in_ok-may.ensures
