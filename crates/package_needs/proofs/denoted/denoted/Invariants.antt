use Rattle.std.proofs.Common.{take}
use Rattle.package_needs.specs.Worlds.{AreDenoted}
use Rattle.package_needs.proofs.denoted.denoted.Given as goal

abbrev pub invariant-loop-k : goal.invariant-loop-k
invariant-loop-k l = AreDenoted (take l.k l.b) l.trees l.rows.items
