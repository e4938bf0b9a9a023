use Rattle.std.proofs.Common.{◌≡◌, None, replicate}
use Rattle.gv_driver.proofs.driver.none_done.Given as goal

abbrev pub invariant-loop-p : goal.invariant-loop-p
invariant-loop-p l = l.table.items ≡ replicate l.p None
