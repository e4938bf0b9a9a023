use Rattle.std.proofs.Common.{take}
use Rattle.gv_driver.specs.Reports.{AreFoundShown}
use Rattle.gv_driver.proofs.diagnosed.found_in.Given as goal

abbrev pub invariant-loop-run : goal.invariant-loop-run
invariant-loop-run l = AreFoundShown l.files (take l.run-index l.runs) l.list.items
