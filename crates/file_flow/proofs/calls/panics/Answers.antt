use Rattle.std.proofs.Common.{◌≡◌, ◌∙◌, length, ap, arith}
use Rattle.file_flow.proofs.PanicLemmas.{right_more, all_right}
use Rattle.file_flow.proofs.calls.panics.Goals as goal

pub loop-n-preserved : goal.loop-n-preserved
loop-n-preserved c =
    right_more c.args.bytes.now c.args.tree.now c.loop-n.n c.calls_panic.result c.loop-n.flags.items c.push.new.self.items c.calls_panic.ensures c.in_ok-push.ensures.items c.loop-n.invariant

pub returns : goal.returns
returns c =
    let size : length c.as_slice-count.result.now ≡ length c.args.tree.now.nodes = ap length c.as_slice-count.ensures in
    let low = c.loop-n.auto.n-end in
    let high = c.loop-n-test.false in
    all_right c.args.bytes.now c.args.tree.now c.loop-n.n c.loop-n.flags.items (omega arith) c.loop-n.invariant
