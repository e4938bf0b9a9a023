use Rattle.std.proofs.Common.{sym, ◌∙◌}
use Rattle.mark_walk.specs.Asks.{filled}
use Rattle.typed_marks.specs.Meanings.{Quiet}
use Rattle.typed_marks.specs.States.{so_far}
use Rattle.unit_read.specs.Subjects.{unit_of}
use Rattle.unit_rows.specs.Circular.{named_at}
use Rattle.check_pkg.specs.References.{refers}
use Rattle.check_pkg.proofs.ReferenceLemmas.{kept_if, none_if}
use Rattle.check_pkg.proofs.references.reference_at.Goals as goal

pub returns-in-Some : goal.returns-in-Some
returns-in-Some c =
    let u = unit_of c.args.u.now in
    c.if_counts.ensures ∙ kept_if c.refers.result (refers u (filled Quiet (so_far c.args.s.now)) c.args.at) (named_at u c.args.at) c.in-Some.name c.refers.ensures (sym c.named_at.ensures ∙ c.in-Some.is)

pub returns-in-None : goal.returns-in-None
returns-in-None c =
    let u = unit_of c.args.u.now in
    none_if (refers u (filled Quiet (so_far c.args.s.now)) c.args.at) (named_at u c.args.at) (sym c.named_at.ensures ∙ c.in-None.is)
