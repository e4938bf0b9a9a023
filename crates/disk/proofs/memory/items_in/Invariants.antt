use Rattle.std.proofs.Common.{◌≡◌, map, take, flat_map}
use Rattle.disk.specs.Folders.{named_of}
use Rattle.disk.specs.Memory.{placed_of, item_in}
use Rattle.disk.proofs.memory.items_in.Given as goal

abbrev pub invariant-loop-slot : goal.invariant-loop-slot
invariant-loop-slot l = map named_of l.items.items ≡ flat_map (item_in l.folder) (map placed_of (take l.slot-index l.slots))
