use Rattle.unit_read.specs.Units.{node_at}
use Rattle.findings.specs.Passes.{unit_in, marks_in}
use Rattle.findings.proofs.GainLemmas.{gains_some}
use Rattle.findings.proofs.running.report_node.Goals as goal

pub returns : goal.returns
returns g c =
    let u = unit_in c.args.pass.now in
    gains_some (node_at u c.args.at) (g.R.Reports.reported c.args.rule.now u (marks_in c.args.pass.now) c.args.at) c.args.node.now c.args.found.now.items c.report_at.new.found.items
    c.requires.node c.in_ok-report_at.ensures
