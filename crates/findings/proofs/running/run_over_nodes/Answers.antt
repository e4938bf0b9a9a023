use Rattle.findings.specs.Passes.{unit_in, marks_in}
use Rattle.findings.proofs.ReportLemmas.{settled}
use Rattle.findings.proofs.running.run_over_nodes.Goals as goal

pub returns : goal.returns
returns g c =
    settled (g.R.Reports.reported c.args.rule.now) (unit_in c.args.pass.now) (marks_in c.args.pass.now) c.new-found.result.items c.report_files.new.found.items c.settle_findings.new.found.items
    c.new-found.ensures.items c.in_ok-report_files.ensures c.settle_findings.ensures.keeps c.settle_findings.ensures.adds_none c.settle_findings.ensures.rises
