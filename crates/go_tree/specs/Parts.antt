-- The numbers of a node's parts.
use Rattle.std.specs.Prelude.{ℕ, List, []}
use Rattle.go_tree.specs.declared.part_list.Listed.{Listed}
use Rattle.go_tree.specs.declared.part_list.Listed.TheVariants.{Nothing, One, Two, Three, Four, Five, Six, Many}

abbrev pub listed : Listed → List ℕ
listed Nothing = []
listed (One items) = items
listed (Two items) = items
listed (Three items) = items
listed (Four items) = items
listed (Five items) = items
listed (Six items) = items
listed (Many items) = items.items
