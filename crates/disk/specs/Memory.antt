-- A disk in memory: a list of what stands where.
use Rattle.std.specs.Prelude.{ℕ, List, [], ◌∷◌, bytes_eq, if◌then◌else◌}
use Rattle.std.specs.String.{string_bytes}
use Rattle.disk.specs.declared.memory.Slot.{Slot}
use Rattle.disk.specs.Folders.{Placed, Named}

abbrev pub placed_of : Slot → Placed
placed_of slot = (string_bytes slot.folder, string_bytes slot.name, slot.kind)

-- the item that this is, where it stands in the folder
abbrev pub item_in : List ℕ → Placed → List Named
item_in folder slot = if bytes_eq slot.0 folder then (slot.1, slot.2) ∷ [] else []
