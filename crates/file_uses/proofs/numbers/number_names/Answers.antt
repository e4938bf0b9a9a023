use Rattle.std.proofs.Common.{◌≤◌, length, arith}
use Rattle.file_uses.specs.Numbers.{name_in, found}
use Rattle.file_uses.proofs.NumberLemmas.{step, numbered, outside}
use Rattle.file_uses.proofs.numbers.number_names.Goals as goal

pub loop-at-preserved : goal.loop-at-preserved
loop-at-preserved c =
    rw c.in_ok-push.ensures.items (step (name_in c.args.bytes.now c.args.tree.now) (found c.loop-at.names) (found c.number_at.new.names) c.loop-at.at c.loop-at.next c.after-next.result c.in_ok-number.number c.loop-at.of.items
    c.loop-at.invariant c.in_ok-number.ensures c.after-next.ensures.next c.after-next.ensures.below c.after-next.ensures.one)

pub returns : goal.returns
returns c =
    let end : length c.args.tree.now.nodes ≤ c.loop-at.at = omega (arith, c.loop-at-test.false, c.count_nodes-at-end.ensures) in
    let within : c.loop-at.at ≤ length c.args.tree.now.nodes = omega (arith, c.loop-at.auto.at-end, c.count_nodes-at-end.ensures) in
    numbered (name_in c.args.bytes.now c.args.tree.now) (found c.loop-at.names) c.loop-at.at (length c.args.tree.now.nodes) c.loop-at.next c.loop-at.of.items end within
    (outside c.args.bytes.now c.args.tree.now) c.loop-at.invariant
