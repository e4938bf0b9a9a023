use Rattle.gv_driver.specs.Reports.{AreShown}
use Rattle.gv_driver.proofs.report.verdicts.Given as goal

abbrev pub invariant-loop-p : goal.invariant-loop-p
invariant-loop-p l = AreShown l.tree l.table l.list.items l.p
