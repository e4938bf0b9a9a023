use Rattle.check_pkg.specs.ImportLists.{has}
use Rattle.check_pkg.proofs.UsedLemmas.{one_noted, none_noted}
use Rattle.check_pkg.proofs.used.note_import.Goals as goal

pub returns-in_ok-note : goal.returns-in_ok-note
returns-in_ok-note c = one_noted c.args.at c.in-Some.node (has c.args.used.now) (has c.note.new.used) c.in-Some.is c.in_ok-note.ensures

pub returns-in_default : goal.returns-in_default
returns-in_default c = none_noted c.args.at (has c.args.used.now) c.in_default.is
