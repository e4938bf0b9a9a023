use Rattle.std.proofs.Common.{◌≡◌, ◌<◌, ◌+◌, ◌*◌, length, sym, subst, arith}
use Rattle.std.proofs.lemmas.List.{get_or_read}
use Rattle.fix_apply.specs.Trees.{Bounds, node_at}
use Rattle.fix_apply.proofs.TreeSteps.{set_ordered}
use Rattle.fix_apply.proofs.tree.tighten.Goals as goal

pub returns-clause-ordered : goal.returns-clause-ordered
returns-clause-ordered c =
    let nodes = c.args.nodes.now.items in
    let x = c.args.x in
    let below : x < length nodes = omega (arith, c.requires.inner) in
    let left_below : 2 * x < length nodes = omega (arith, c.requires.inner) in
    let left : c.index-a.result.now ≡ node_at nodes (2 * x) = get_or_read nodes (2 * x) _ left_below c.index-a.ensures _ in
    let right : c.index-b.result.now ≡ node_at nodes (2 * x + 1) = get_or_read nodes (2 * x + 1) _ c.requires.inner c.index-b.ensures _ in
    let two = c.requires.ordered x c.requires.some in
    set_ordered nodes x c.join.result c.requires.ordered below
    (λ _. subst (Bounds c.join.result) left c.join.ensures.first)
    (λ _. subst (Bounds c.join.result) right c.join.ensures.second)
    (c.join.ensures.least (node_at nodes x) (subst (Bounds (node_at nodes x)) (sym left) (two.0 left_below)) (subst (Bounds (node_at nodes x)) (sym right) (two.1 c.requires.inner)))
