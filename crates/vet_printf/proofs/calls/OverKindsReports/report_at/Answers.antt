use Rattle.findings.specs.Passes.{unit_in, marks_in}
use Rattle.vet_printf.specs.Calls.{kinds_at}
use Rattle.vet_printf.proofs.CallLemmas.{gains_over}
use Rattle.vet_printf.proofs.calls.OverKindsReports.report_at.Goals as goal

pub report_call-requires-clause-pass : goal.report_call-requires-clause-pass
report_call-requires-clause-pass c = c.requires.fits.pass

pub report_call-requires-clause-cells : goal.report_call-requires-clause-cells
report_call-requires-clause-cells c = c.requires.fits.are

pub returns : goal.returns
returns c =
    let own = c.args.self.now.pass.now in
    let p = c.args.pass.now in
    gains_over (kinds_at c.args.self.now.kinds.now.items) (unit_in own) (unit_in p) (marks_in own) (marks_in p) c.args.at c.args.node.now c.args.found.now.items c.report_call.new.found.items c.requires.fits.unit c.requires.fits.says
    c.in_ok-report_call.ensures
