use Rattle.std.proofs.Common.{◌≡◌, ◌≤◌, ◌*◌, take}
use Rattle.std.specs.Prelude.{sum_by}
use Rattle.gv_driver.specs.Tables.{missing_in}
use Rattle.gv_driver.proofs.counts.count_missing.Given as goal

abbrev pub invariant-loop-node : goal.invariant-loop-node
invariant-loop-node l = record { sums : l.count ≡ sum_by missing_in (take l.node-index l.table); small : l.count ≤ 16 * l.node-index }
