-- The defined types of a package, from its trees alone.
use Rattle.std.specs.Prelude.{ℕ, List, length, slice_get}
use Rattle.go_tree.specs.declared.tree.FileTree.{FileTree}
use Rattle.go_tree.specs.declared.tree.Node.{Node}
use Rattle.go_tree.specs.declared.tree.NodeRef.{NodeRef}
use Rattle.package_objects.specs.Declares.{gather}
use Rattle.unit_read.specs.Units.{nodes_of, defined_at}

abbrev pub nodes_in : List FileTree → ℕ → List Node
nodes_in trees f = nodes_of (slice_get trees f)

abbrev pub defined_of : List FileTree → ℕ → List NodeRef
defined_of trees f = gather (defined_at f (nodes_in trees f)) (length (nodes_in trees f))

abbrev pub all_defined : List FileTree → List NodeRef
all_defined trees = gather (defined_of trees) (length trees)
