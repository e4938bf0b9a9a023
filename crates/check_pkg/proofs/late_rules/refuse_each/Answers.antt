use Rattle.std.proofs.Common.{length, slice_get, arith}
use Rattle.std.proofs.lemmas.Option.{slice_get-get_or}
use Rattle.mark_walk.specs.Asks.{filled}
use Rattle.typed_marks.specs.Meanings.{Quiet}
use Rattle.typed_marks.specs.States.{so_far}
use Rattle.unit_read.specs.Subjects.{full_of}
use Rattle.check_pkg.specs.Late.{RefusedBy, NthRefusedBy}
use Rattle.check_pkg.proofs.GainLemmas.{below_none, below_more, below_all, gains_some}
use Rattle.check_pkg.proofs.late_rules.refuse_each.Goals as goal

pub loop-late-init : goal.loop-late-init
loop-late-init c = below_none (NthRefusedBy (full_of c.args.u.now) (filled Quiet (so_far c.args.s.now)) c.args.rules.now) c.args.list.now.items

pub loop-late-preserved : goal.loop-late-preserved
loop-late-preserved c =
    let u = full_of c.args.u.now in
    let marks = filled Quiet (so_far c.args.s.now) in
    below_more (NthRefusedBy u marks c.args.rules.now) c.loop-late.late-index c.args.list.now.items c.loop-late.list.items c.refuse_by.new.list.items c.loop-late.invariant
    (gains_some (slice_get c.args.rules.now c.loop-late.late-index) (RefusedBy u marks) _ c.loop-late.list.items c.refuse_by.new.list.items
    (slice_get-get_or c.args.rules.now c.loop-late.late-index _ c.loop-late-test.true) c.in_ok-refuse_by.ensures)

pub returns : goal.returns
returns c =
    below_all (NthRefusedBy (full_of c.args.u.now) (filled Quiet (so_far c.args.s.now)) c.args.rules.now) c.loop-late.late-index (length c.args.rules.now) c.args.list.now.items c.loop-late.list.items
    (omega arith) c.loop-late.invariant
