use Rattle.std.proofs.Common.{◌≡◌, length, ap, arith}
use Rattle.file_flow.proofs.TreeLemmas.{read_at}
use Rattle.file_flow.proofs.ToldLemmas.{owners_more, all_owned}
use Rattle.file_flow.proofs.told.owners_of.Goals as goal

pub loop-l-preserved : goal.loop-l-preserved
loop-l-preserved c =
    let there = read_at c.args.tree.now.nodes c.as_slice-nodes.result.now c.loop-l.l c.index-nodes-l.result c.index-nodes-l.result c.as_slice-nodes.ensures c.loop-l-test.true c.index-nodes-l.is in
    owners_more c.args.tree.now c.loop-l.l c.index-nodes-l.result c.named_by.result c.loop-l.owners.items c.put_owner.new.owners.items
    c.requires.tree there c.named_by.ensures c.put_owner.ensures.named c.put_owner.ensures.other c.loop-l.invariant

pub returns : goal.returns
returns c =
    let size : length c.as_slice-nodes.result.now ≡ length c.args.tree.now.nodes = ap length c.as_slice-nodes.ensures in
    let low = c.loop-l.auto.l-end in
    let high = c.loop-l-test.false in
    all_owned c.args.tree.now c.loop-l.l c.loop-l.owners.items (omega arith) c.loop-l.invariant
