-- Nodes of a file at which no defined type is declared, all of them together.
use Rattle.std.specs.Prelude.{ℕ, ◌==◌, Bool, false, not, if◌then◌else◌, List, [], length, map, Option, None}
use Rattle.std.specs.List.{list_any, range_with_len}
use Rattle.std.specs.Option.{option_map_or}
use Rattle.go_tree.specs.declared.tree.Node.{Node}
use Rattle.package_objects.specs.Declares.{part}
use Rattle.unit_read.specs.declared.passage.Passage.{Passage}
use Rattle.unit_read.specs.Units.{Unit, nodes_at, passage_at, is_defined_node}

-- the name of the type that a node defines
abbrev pub type_named : Node → Option ℕ
type_named node = if is_defined_node node.kind then part node 0 else None

-- n is that name
abbrev pub names_type : ℕ → Node → Bool
names_type n node = option_map_or (λ name. n == name) (type_named node) false

-- for each node of a file: no node of the file names it as a type
abbrev pub unnamed : List Node → List Bool
unnamed nodes = map (λ n. not (list_any (names_type n) nodes)) (range_with_len 0 (length nodes))

-- A list that is repeated declares nothing, and is looked at node by node.
abbrev pub unnamed_passage : Unit → ℕ → Passage → List Bool
unnamed_passage u block p = if block == p.file then unnamed (nodes_at u p.file) else []

-- the flags of the nodes of a block
abbrev pub unnamed_in : Unit → ℕ → List Bool
unnamed_in u block = option_map_or (unnamed_passage u block) (passage_at u block) []
