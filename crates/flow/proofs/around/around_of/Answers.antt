use Rattle.std.proofs.Common.{◌≡◌, ◌-◌, ◌∙◌, suc, List, length, ap, subst, arith}
use Rattle.flow.specs.declared.point.Around.{Around}
use Rattle.flow.specs.Around.{AreFilled, around_at}
use Rattle.flow.proofs.AroundLemmas.{read_at, all_filled}
use Rattle.flow.proofs.around.around_of.Goals as goal

pub give_some-requires-clause-p : goal.give_some-requires-clause-p
give_some-requires-clause-p c =
    let some = c.loop-left-test.true in
    let low = c.loop-left.invariant.low in
    omega arith

pub give_some-requires-clause-node : goal.give_some-requires-clause-node
give_some-requires-clause-node c =
    let left = c.loop-left.left in
    let some = c.loop-left-test.true in
    let low = c.loop-left.invariant.low in
    let nodes : c.as_slice-nodes.result.now ≡ c.args.tree.now.nodes = c.as_slice-nodes.ensures in
    let size : length c.as_slice-nodes.result.now ≡ length c.args.tree.now.nodes = ap length nodes in
    read_at c.args.tree.now.nodes c.as_slice-nodes.result.now (left - 1) c.index-nodes-left.result c.index-nodes-left.result nodes (omega arith) c.index-nodes-left.is

pub give_some-requires-clause-filled : goal.give_some-requires-clause-filled
give_some-requires-clause-filled c =
    let left = c.loop-left.left in
    let some = c.loop-left-test.true in
    let same : left ≡ suc (left - 1) = omega arith in
    subst (λ k. AreFilled c.args.tree.now k c.loop-left.table.items) same c.loop-left.invariant.filled

pub give_some-requires-clause-around : goal.give_some-requires-clause-around
give_some-requires-clause-around c =
    let left = c.loop-left.left in
    c.around_at-around.ensures ∙ ap (λ (l : List Around). around_at l (left - 1)) c.deref.ensures.value

pub loop-left-preserved : goal.loop-left-preserved
loop-left-preserved c =
    let some = c.loop-left-test.true in
    let low = c.loop-left.invariant.low in
    record {
      low = omega arith;
      filled = c.give_some.ensures;
    }

pub returns : goal.returns
returns c =
    let none = c.loop-left-test.false in
    all_filled c.args.tree.now c.loop-left.left c.loop-left.table.items (omega arith) c.loop-left.invariant.filled
