use Rattle.findings.specs.Gains.{Gains, SomeBelow}
use Rattle.findings.specs.Passes.{unit_in, marks_in}
use Rattle.findings.specs.InCode.{reported_in}
use Rattle.findings.proofs.running.report_files.Given as goal

abbrev pub invariant-loop-file : goal.invariant-loop-file
invariant-loop-file g l = Gains (SomeBelow l.file (reported_in (g.R.Reports.reported l.rule) (unit_in l.pass) (marks_in l.pass))) l.fn.found.items l.found.items
