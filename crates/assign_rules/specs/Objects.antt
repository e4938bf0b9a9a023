-- The variables that statements declare (Go 1.17, "Short variable declarations", "For statements with range clause", "Type switches").
use Rattle.std.specs.Prelude.{ℕ, Bool}
use Rattle.std.specs.Option.{option_map_or}
use Rattle.go_tree.specs.declared.tree.Node.{Node}
use Rattle.go_tree.specs.declared.tree.NodeKind.{NodeKind}
use Rattle.go_tree.specs.declared.tree.NodeKind.TheVariants as k
use Rattle.package_objects.specs.Declares.{part}
use Rattle.mark_walk.specs.Asks.{done}
use Rattle.typed_marks.specs.Meanings.{Quiet}
use Rattle.unit_read.specs.Units.{Unit, nodes_at}
use Rattle.rule_words.specs.Asking.{Rule}
use Rattle.variable_rules.specs.Objects.{by_value, valued_object}
use Rattle.assign_rules.specs.Ranging.{range_object}

-- the name of a type switch stands for the operand, "converted first" as a variable's value is
abbrev pub bound_object : Unit → ℕ → Node → Rule
bound_object u file node = option_map_or (valued_object u file) (part node 1) (done Quiet)

abbrev pub object_by : Unit → ℕ → NodeKind → Node → ℕ → Rule
object_by u file k.Define node i = by_value u file (nodes_at u file) node i 1
object_by u file k.ForRangeDefine node i = range_object u file node i
object_by u file k.Bind node i = bound_object u file node
object_by u file _ node i = done Quiet

-- The object of the name at a place of a statement that declares it.
abbrev pub statement_object : Unit → ℕ → Node → ℕ → Rule
statement_object u file node i = object_by u file node.kind node i
