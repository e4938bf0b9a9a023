use Rattle.findings.specs.Passes.{unit_in, marks_in}
use Rattle.findings.proofs.GainLemmas.{gains_list}
use Rattle.vet_simple.specs.Bools.{bools_found}
use Rattle.vet_simple.proofs.bools.OverQuietReports.report_at.Goals as goal

pub returns : goal.returns
returns c =
    gains_list (bools_found (unit_in c.args.pass.now) (marks_in c.args.pass.now) c.args.at c.args.node.now) c.args.found.now.items c.report_bools.new.found.items c.in_ok-report_bools.ensures
