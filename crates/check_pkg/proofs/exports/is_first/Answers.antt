use Rattle.std.proofs.Common.{sym, ◌∙◌}
use Rattle.go_tree.specs.Lexeme.{place_of}
use Rattle.unit_read.specs.Subjects.{unit_of}
use Rattle.check_pkg.specs.Names.{spelled_names}
use Rattle.check_pkg.proofs.ExportLemmas.{is_place, no_place}
use Rattle.check_pkg.proofs.exports.is_first.Goals as goal

pub returns-in-Some : goal.returns-in-Some
returns-in-Some c =
    is_place (place_of (spelled_names (unit_of c.args.u.now)) c.args.name.now) c.in-Some.first c.args.place
    (sym (c.requires.firsts c.args.name.now) ∙ (sym c.find.ensures ∙ c.in-Some.is))

pub returns-in-None : goal.returns-in-None
returns-in-None c =
    no_place (place_of (spelled_names (unit_of c.args.u.now)) c.args.name.now) c.args.place
    (sym (c.requires.firsts c.args.name.now) ∙ (sym c.find.ensures ∙ c.in-None.is))
