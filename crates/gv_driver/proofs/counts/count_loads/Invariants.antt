use Rattle.std.proofs.Common.{◌≡◌, ◌≤◌, ◌*◌, take}
use Rattle.std.specs.Prelude.{sum_by}
use Rattle.gv_driver.specs.Tables.{loads_in}
use Rattle.gv_driver.proofs.counts.count_loads.Given as goal

abbrev pub invariant-loop-node : goal.invariant-loop-node
invariant-loop-node l = record { sums : l.count ≡ sum_by loads_in (take l.node-index l.table); small : l.count ≤ 16 * l.node-index }
