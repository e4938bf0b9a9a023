use Rattle.std.proofs.Common.{sym, ◌∙◌}
use Rattle.findings.specs.Passes.{unit_in, marks_in}
use Rattle.findings.proofs.GainLemmas.{gains_some, gains_nothing}
use Rattle.vet_locks.specs.Suspects.{suspect_at}
use Rattle.vet_locks.specs.CopyLocks.{IsToldOf}
use Rattle.vet_locks.proofs.copy_locks.report_nth.Goals as goal

pub returns-in_ok-report_suspect-in-Some : goal.returns-in_ok-report_suspect-in-Some
returns-in_ok-report_suspect-in-Some c =
    let u = unit_in c.args.p.now in
    gains_some (suspect_at u c.args.file c.args.node.now c.args.i) (IsToldOf u (marks_in c.args.p.now) c.args.file) c.in-Some.s c.args.found.now.items c.report_suspect.new.found.items
    (sym c.suspect_at.ensures ∙ c.in-Some.is) c.in_ok-report_suspect-in-Some.ensures

pub returns-in-None : goal.returns-in-None
returns-in-None c =
    let u = unit_in c.args.p.now in
    gains_nothing (suspect_at u c.args.file c.args.node.now c.args.i) (IsToldOf u (marks_in c.args.p.now) c.args.file) c.args.found.now.items (sym c.suspect_at.ensures ∙ c.in-None.is)
