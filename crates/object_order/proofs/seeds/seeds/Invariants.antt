use Rattle.std.proofs.Common.{◌≡◌, take}
use Rattle.object_order.specs.Names.{seeds}
use Rattle.object_order.proofs.seeds.seeds.Given as goal

abbrev pub invariant-loop-entry : goal.invariant-loop-entry
invariant-loop-entry l = l.list.items ≡ seeds (take l.entry-index l.entries.items)
