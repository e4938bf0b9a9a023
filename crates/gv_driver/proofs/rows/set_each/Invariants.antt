use Rattle.std.proofs.Common.{◌≡◌, drop}
use Rattle.gv_driver.specs.Rows.{with_each}
use Rattle.gv_driver.proofs.rows.set_each.Given as goal

abbrev pub invariant-loop-number : goal.invariant-loop-number
invariant-loop-number l = with_each l.table (drop l.number-index l.numbers) l.flags.items ≡ with_each l.table l.numbers l.initial.flags.items
