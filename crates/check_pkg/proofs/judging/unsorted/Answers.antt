use Rattle.mark_walk.specs.Asks.{filled}
use Rattle.typed_marks.specs.Meanings.{Quiet}
use Rattle.typed_marks.specs.States.{so_far}
use Rattle.unit_read.specs.Subjects.{full_of}
use Rattle.check_pkg.proofs.PackageLemmas.{collected}
use Rattle.check_pkg.proofs.judging.unsorted.Goals as goal

pub returns : goal.returns
returns c =
    collected (full_of c.args.u.now) (filled Quiet (so_far c.args.s.now)) c.new-list.result.items c.refuse_items.new.list.items c.refuse_imports.new.list.items
    c.refuse_late.new.list.items c.new-list.ensures.items c.in_ok-refuse_items.ensures c.in_ok-refuse_imports.ensures c.in_ok-refuse_late.ensures
