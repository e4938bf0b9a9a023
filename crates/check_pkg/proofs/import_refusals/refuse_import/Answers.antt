use Rattle.mark_walk.specs.Asks.{filled}
use Rattle.typed_marks.specs.Meanings.{Quiet}
use Rattle.typed_marks.specs.States.{so_far}
use Rattle.unit_read.specs.Subjects.{full_of}
use Rattle.check_pkg.proofs.ImportLemmas.{import_gains}
use Rattle.check_pkg.proofs.import_refusals.refuse_import.Goals as goal

pub returns : goal.returns
returns c =
    import_gains (full_of c.args.u.now) (filled Quiet (so_far c.args.s.now)) c.args.at c.args.name.now c.is_taken-taken.result c.is_unused-unused.result c.place_of-place.result c.args.list.now.items c.refuse_if.new.list.items
    c.refuse_if-2.new.list.items c.place_of-place.ensures c.is_taken-taken.ensures c.is_unused-unused.ensures c.in_ok-refuse_if.ensures c.in_ok-refuse_if-2.ensures
