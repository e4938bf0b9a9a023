use Rattle.std.proofs.Common.{◌≡◌, ◌*◌, ◌∙◌, length, sym, ap, arith}
use Rattle.flow.specs.Passing.{goto_point, Names}
use Rattle.flow.proofs.AroundLemmas.{read_at}
use Rattle.flow.proofs.MarkLemmas.{marked_more, all_marked_so, by_names}
use Rattle.flow.proofs.marks.named_points.Goals as goal

pub loop-n-preserved : goal.loop-n-preserved
loop-n-preserved c =
    let there = read_at c.args.tree.now.nodes c.as_slice-nodes.result.now c.loop-n.n c.index-nodes-n.result c.index-nodes-n.result c.as_slice-nodes.ensures c.loop-n-test.true c.index-nodes-n.is in
    marked_more (Names c.args.tree.now c.args.labels.now) c.loop-n.n (2 * length c.args.tree.now.nodes) c.goto_point-point.result c.loop-n.marks.items c.mark.new.marks.items
    (λ q e. record { node = c.index-nodes-n.result; there = there; is = sym c.goto_point-point.ensures ∙ e })
    (λ q l. c.goto_point-point.ensures ∙ by_names c.args.tree.now c.args.labels.now c.loop-n.n c.index-nodes-n.result there q l)
    c.loop-n.invariant c.mark.ensures

pub returns : goal.returns
returns c =
    let size : length c.as_slice-nodes.result.now ≡ length c.args.tree.now.nodes = ap length c.as_slice-nodes.ensures in
    let low = c.loop-n.auto.n-end in
    let high = c.loop-n-test.false in
    all_marked_so (Names c.args.tree.now c.args.labels.now) c.loop-n.n (length c.args.tree.now.nodes) (2 * length c.args.tree.now.nodes) c.loop-n.marks.items (omega arith) (omega arith) c.loop-n.invariant
