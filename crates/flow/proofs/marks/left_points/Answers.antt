use Rattle.std.proofs.Common.{◌≡◌, ◌*◌, ◌∙◌, length, sym, ap, arith}
use Rattle.flow.specs.Around.{around_at}
use Rattle.flow.specs.Passing.{break_point, Leaves}
use Rattle.flow.proofs.AroundLemmas.{read_at}
use Rattle.flow.proofs.MarkLemmas.{marked_more, all_marked_so, leaves_by, by_leaves}
use Rattle.flow.proofs.marks.left_points.Goals as goal

pub loop-n-preserved : goal.loop-n-preserved
loop-n-preserved c =
    let there = read_at c.args.tree.now.nodes c.as_slice-nodes.result.now c.loop-n.n c.index-nodes-n.result c.index-nodes-n.result c.as_slice-nodes.ensures c.loop-n-test.true c.index-nodes-n.is in
    let told : c.break_point-point.result ≡ break_point c.args.tree.now c.args.labels.now c.index-nodes-n.result (around_at c.args.table.now c.loop-n.n) =
    c.break_point-point.ensures ∙ ap (break_point c.args.tree.now c.args.labels.now c.index-nodes-n.result) c.around_at.ensures in
    marked_more (Leaves c.args.tree.now c.args.labels.now) c.loop-n.n (2 * length c.args.tree.now.nodes) c.break_point-point.result c.loop-n.marks.items c.mark.new.marks.items
    (λ q e. leaves_by c.args.tree.now c.args.labels.now c.args.table.now c.loop-n.n c.index-nodes-n.result c.requires.around there q (sym told ∙ e))
    (λ q l. told ∙ by_leaves c.args.tree.now c.args.labels.now c.args.table.now c.loop-n.n c.index-nodes-n.result c.requires.tree c.requires.around there q l)
    c.loop-n.invariant c.mark.ensures

pub returns : goal.returns
returns c =
    let size : length c.as_slice-nodes.result.now ≡ length c.args.tree.now.nodes = ap length c.as_slice-nodes.ensures in
    let low = c.loop-n.auto.n-end in
    let high = c.loop-n-test.false in
    all_marked_so (Leaves c.args.tree.now c.args.labels.now) c.loop-n.n (length c.args.tree.now.nodes) (2 * length c.args.tree.now.nodes) c.loop-n.marks.items (omega arith) (omega arith) c.loop-n.invariant
