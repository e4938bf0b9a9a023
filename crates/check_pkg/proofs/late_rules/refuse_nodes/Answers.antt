use Rattle.std.proofs.Common.{length, slice_get, arith}
use Rattle.std.proofs.lemmas.Option.{slice_get-get_or}
use Rattle.unit_read.specs.Subjects.{unit_of}
use Rattle.check_pkg.specs.Late.{IsLateAt, NthLateAt}
use Rattle.check_pkg.proofs.GainLemmas.{below_none, below_more, below_all, gains_some}
use Rattle.check_pkg.proofs.late_rules.refuse_nodes.Goals as goal

pub loop-at-init : goal.loop-at-init
loop-at-init c = below_none (NthLateAt (unit_of c.args.u.now) c.args.late c.args.nodes.now) c.args.list.now.items

pub loop-at-preserved : goal.loop-at-preserved
loop-at-preserved c =
    below_more (NthLateAt (unit_of c.args.u.now) c.args.late c.args.nodes.now) c.loop-at.at-index c.args.list.now.items c.loop-at.list.items c.refuse_at.new.list.items c.loop-at.invariant
    (gains_some (slice_get c.args.nodes.now c.loop-at.at-index) (IsLateAt (unit_of c.args.u.now) c.args.late) _ c.loop-at.list.items c.refuse_at.new.list.items
    (slice_get-get_or c.args.nodes.now c.loop-at.at-index _ c.loop-at-test.true) c.in_ok-refuse_at.ensures)

pub returns : goal.returns
returns c =
    below_all (NthLateAt (unit_of c.args.u.now) c.args.late c.args.nodes.now) c.loop-at.at-index (length c.args.nodes.now) c.args.list.now.items c.loop-at.list.items (omega arith) c.loop-at.invariant
