use Rattle.gv_driver.specs.Reports.{AllFoundShown}
use Rattle.gv_driver.proofs.diagnosed.findings.Given as goal

abbrev pub invariant-loop-p : goal.invariant-loop-p
invariant-loop-p l = AllFoundShown l.tree l.table l.list.items l.p
