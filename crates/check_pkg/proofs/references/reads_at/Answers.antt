use Rattle.std.proofs.Common.{not, sym, ap, ◌∙◌}
use Rattle.mark_walk.specs.Asks.{filled}
use Rattle.typed_marks.specs.Meanings.{Quiet}
use Rattle.typed_marks.specs.States.{so_far}
use Rattle.unit_read.specs.Subjects.{unit_of}
use Rattle.unit_rows.specs.Circular.{named_at}
use Rattle.check_pkg.specs.References.{names_field}
use Rattle.check_pkg.proofs.ReferenceLemmas.{kept_unless, none_unless}
use Rattle.check_pkg.proofs.references.reads_at.Goals as goal

pub returns-in-Some : goal.returns-in-Some
returns-in-Some c =
    let u = unit_of c.args.u.now in
    c.if_counts.ensures ∙ kept_unless (not c.names_field.result) (names_field u (filled Quiet (so_far c.args.s.now)) c.args.at) (named_at u c.args.at) c.in-Some.name (ap not c.names_field.ensures) (sym c.named_at.ensures ∙ c.in-Some.is)

pub returns-in-None : goal.returns-in-None
returns-in-None c =
    let u = unit_of c.args.u.now in
    none_unless (names_field u (filled Quiet (so_far c.args.s.now)) c.args.at) (named_at u c.args.at) (sym c.named_at.ensures ∙ c.in-None.is)
