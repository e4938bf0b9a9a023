use Rattle.std.proofs.Common.{sym, ◌∙◌}
use Rattle.mark_walk.specs.Asks.{filled}
use Rattle.typed_marks.specs.Meanings.{Quiet}
use Rattle.typed_marks.specs.States.{so_far}
use Rattle.unit_read.specs.Subjects.{unit_of}
use Rattle.check_pkg.specs.ImportLists.{has}
use Rattle.check_pkg.proofs.ImportLemmas.{unused_is, none_of}
use Rattle.check_pkg.proofs.import_refusals.is_unused.Goals as goal

pub returns : goal.returns
returns c =
    unused_is (unit_of c.args.u.now) (filled Quiet (so_far c.args.s.now)) c.args.at (has c.args.used.now) c.has.result c.requires.used
    (sym c.limit_at.ensures ∙ none_of c.limit_at.result c.is_some.result c.is_some.ensures c.if-is_some.false) c.has.ensures
