use Rattle.findings.specs.Gains.{Gains, SomeBelow}
use Rattle.findings.specs.Passes.{unit_in, marks_in}
use Rattle.findings.specs.InCode.{reported_nth}
use Rattle.findings.proofs.running.report_file.Given as goal

abbrev pub invariant-loop-node : goal.invariant-loop-node
invariant-loop-node g l = Gains (SomeBelow l.node (reported_nth (g.R.Reports.reported l.rule) (unit_in l.pass) (marks_in l.pass) l.file)) l.fn.found.items l.found.items
