use Rattle.mark_walk.specs.Asks.{filled}
use Rattle.typed_marks.specs.Meanings.{Quiet}
use Rattle.typed_marks.specs.States.{so_far}
use Rattle.unit_read.specs.Subjects.{full_of}
use Rattle.check_pkg.proofs.LateLemmas.{lates_gain}
use Rattle.check_pkg.proofs.late_rules.refuse_rows.Goals as goal

pub returns : goal.returns
returns c =
    lates_gain (full_of c.args.u.now) (filled Quiet (so_far c.args.s.now)) c.in_ok-rules.rules.items c.deref.result.now c.args.list.now.items c.refuse_each.new.list.items
    c.deref.ensures.value c.in_ok-rules.ensures c.in_ok-refuse_each.ensures
