use Rattle.std.proofs.Common.{arith}
use Rattle.mark_walk.specs.Asks.{filled}
use Rattle.typed_marks.specs.Meanings.{Quiet}
use Rattle.typed_marks.specs.States.{so_far}
use Rattle.unit_read.specs.Subjects.{unit_of}
use Rattle.check_pkg.specs.Items.{RefusesNode}
use Rattle.check_pkg.proofs.GainLemmas.{reached_none, reached_more, reached_all}
use Rattle.check_pkg.proofs.ValueLemmas.{value_goes_on}
use Rattle.check_pkg.proofs.faults.refuse_passage.Goals as goal

pub loop-node-init : goal.loop-node-init
loop-node-init c = record {
  gains = reached_none (RefusesNode (unit_of c.args.u.now) (filled Quiet (so_far c.args.s.now)) c.args.block c.args.p) c.args.p.span.low c.args.p.span.end c.args.list.now.items;
  value = omega arith;
}

pub loop-node-preserved : goal.loop-node-preserved
loop-node-preserved c =
    let u = unit_of c.args.u.now in
    let on = value_goes_on u c.args.p c.loop-node.node in
    let is = c.value_in-value.ensures in
    record {
      gains = reached_more (RefusesNode u (filled Quiet (so_far c.args.s.now)) c.args.block c.args.p) c.args.p.span.low c.args.p.span.end c.loop-node.node c.args.list.now.items c.loop-node.list.items
          c.refuse_node.new.list.items (omega arith) (omega arith) c.loop-node.invariant.gains c.in_ok-refuse_node.ensures;
      value = omega arith;
    }

pub returns : goal.returns
returns c =
    reached_all (RefusesNode (unit_of c.args.u.now) (filled Quiet (so_far c.args.s.now)) c.args.block c.args.p) c.args.p.span.low c.args.p.span.end c.loop-node.node c.args.list.now.items
    c.loop-node.list.items (omega arith) c.loop-node.invariant.gains
