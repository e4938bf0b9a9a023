use Rattle.std.proofs.Common.{◌≡◌, drop}
use Rattle.gv_driver.specs.Rows.{with_all}
use Rattle.gv_driver.proofs.rows.set_all.Given as goal

abbrev pub invariant-loop-number : goal.invariant-loop-number
invariant-loop-number l = with_all (drop l.number-index l.row) l.flags.items ≡ with_all l.row l.initial.flags.items
