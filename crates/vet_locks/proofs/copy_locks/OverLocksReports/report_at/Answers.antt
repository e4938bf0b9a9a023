use Rattle.findings.specs.Passes.{unit_in, marks_in}
use Rattle.vet_locks.proofs.ReportLemmas.{gains_over}
use Rattle.vet_locks.proofs.copy_locks.OverLocksReports.report_at.Goals as goal

pub report_copies-requires-clause-pass : goal.report_copies-requires-clause-pass
report_copies-requires-clause-pass c = c.requires.fits.pass

pub report_copies-requires-clause-locks : goal.report_copies-requires-clause-locks
report_copies-requires-clause-locks c = c.requires.fits.are

pub returns : goal.returns
returns c =
    let own = c.args.self.now.pass.now in
    let p = c.args.pass.now in
    gains_over (unit_in own) (unit_in p) (marks_in own) (marks_in p) c.args.at c.args.node.now c.args.found.now.items c.report_copies.new.found.items c.requires.fits.unit c.requires.fits.says c.in_ok-report_copies.ensures
