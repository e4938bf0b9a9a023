use Rattle.std.proofs.Common.{sym, ◌∙◌}
use Rattle.findings.specs.Passes.{unit_in, marks_in}
use Rattle.vet_locks.specs.Held.{MayLock}
use Rattle.vet_locks.specs.Suspects.{suspect_at}
use Rattle.vet_locks.proofs.ReportLemmas.{some_says, none_says}
use Rattle.vet_locks.proofs.held.may_tell_nth.Goals as goal

pub returns-in-Some : goal.returns-in-Some
returns-in-Some c =
    let p = c.args.p.now in
    some_says (MayLock (unit_in p) (marks_in p) c.args.file) (suspect_at (unit_in p) c.args.file c.args.node.now c.args.i) c.in-Some.s c.may_lock_suspect.result (sym c.suspect_at.ensures ∙ c.in-Some.is) c.may_lock_suspect.ensures

pub returns-in-None : goal.returns-in-None
returns-in-None c =
    let p = c.args.p.now in
    none_says (MayLock (unit_in p) (marks_in p) c.args.file) (suspect_at (unit_in p) c.args.file c.args.node.now c.args.i) (sym c.suspect_at.ensures ∙ c.in-None.is)
