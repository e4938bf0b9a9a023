use Rattle.go_tree.proofs.NodeLemmas.{differ}
use Rattle.mark_walk.specs.Asks.{filled}
use Rattle.typed_marks.specs.Meanings.{Quiet}
use Rattle.typed_marks.specs.States.{so_far}
use Rattle.unit_read.specs.Subjects.{full_of}
use Rattle.check_pkg.proofs.LeadingLemmas.{no_circle}
use Rattle.check_pkg.proofs.leading.may_circle.Goals as goal

pub returns : goal.returns
returns c = λ none at fault.
    no_circle (full_of c.args.u.now) (filled Quiet (so_far c.args.s.now)) c.in_ok-rows.rows.items c.in_ok-rows.ensures (λ f m leads. differ c.values_lead.result none (c.values_lead.ensures.1 (f, m, leads))) at fault
