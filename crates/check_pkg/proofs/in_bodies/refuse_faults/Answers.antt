use Rattle.std.proofs.Common.{length, slice_get, arith}
use Rattle.std.proofs.lemmas.Option.{slice_get-get_or}
use Rattle.check_pkg.specs.InBodies.{IsOfFault, NthOfFault}
use Rattle.check_pkg.proofs.GainLemmas.{below_none, below_more, below_all, gains_some}
use Rattle.check_pkg.proofs.in_bodies.refuse_faults.Goals as goal

pub loop-fault-init : goal.loop-fault-init
loop-fault-init c = below_none (NthOfFault c.args.found.now) c.args.list.now.items

pub loop-fault-preserved : goal.loop-fault-preserved
loop-fault-preserved c =
    below_more (NthOfFault c.args.found.now) c.loop-fault.fault-index c.args.list.now.items c.loop-fault.list.items c.refuse_fault.new.list.items c.loop-fault.invariant
    (gains_some (slice_get c.args.found.now c.loop-fault.fault-index) IsOfFault _ c.loop-fault.list.items c.refuse_fault.new.list.items
    (slice_get-get_or c.args.found.now c.loop-fault.fault-index _ c.loop-fault-test.true) c.in_ok-refuse_fault.ensures)

pub returns : goal.returns
returns c = below_all (NthOfFault c.args.found.now) c.loop-fault.fault-index (length c.args.found.now) c.args.list.now.items c.loop-fault.list.items (omega arith) c.loop-fault.invariant
