use Rattle.std.proofs.Common.{◌≡◌, ◌++◌, take}
use Rattle.object_order.specs.Spots.{spots}
use Rattle.object_order.proofs.tables.lay.Given as goal

abbrev pub invariant-loop-mode : goal.invariant-loop-mode
invariant-loop-mode l = l.row.items ≡ l.fn.row.items ++ spots (take l.mode-index l.modes) l.at
