use Rattle.std.proofs.Common.{◌≡◌, ◌++◌, drop}
use Rattle.gv_driver.specs.Rows.{of_paths}
use Rattle.gv_driver.proofs.rows.with_paths.Given as goal

abbrev pub invariant-loop-number : goal.invariant-loop-number
invariant-loop-number l = l.list.items ++ of_paths l.tree l.paths (drop l.number-index l.numbers) ≡ of_paths l.tree l.paths l.numbers
