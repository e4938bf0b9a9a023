use Rattle.mark_walk.specs.Asks.{filled}
use Rattle.typed_marks.specs.Meanings.{Quiet}
use Rattle.typed_marks.specs.States.{so_far}
use Rattle.unit_read.specs.Subjects.{full_of}
use Rattle.std.proofs.Common.{sym}
use Rattle.check_pkg.proofs.ImportLemmas.{no_imports}
use Rattle.check_pkg.proofs.import_refusals.refuse_file.Goals as goal

pub returns-in-None : goal.returns-in-None
returns-in-None c = no_imports (full_of c.args.u.now) (filled Quiet (so_far c.args.s.now)) c.args.file c.args.list.now.items (sym c.in-None.ensures)
