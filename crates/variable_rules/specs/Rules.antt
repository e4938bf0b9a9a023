-- The rule of a specification of variables with values (Go 1.17, "Variable declarations").
use Rattle.std.specs.Prelude.{ℕ, List, Option}
use Rattle.std.specs.Option.{option_map_or}
use Rattle.go_tree.specs.declared.tree.Node.{Node}
use Rattle.go_tree.specs.declared.tree.NodeRef.{NodeRef}
use Rattle.mark_walk.specs.Asks.{done}
use Rattle.typed_marks.specs.Meanings.{Quiet}
use Rattle.unit_read.specs.Units.{Unit, nodes_at}
use Rattle.rule_words.specs.Asking.{Rule}
use Rattle.rule_words.specs.Parts.{Part}
use Rattle.rule_words.specs.Words.{Wanted}
use Rattle.variable_rules.specs.Counts.{counted_rule}
use Rattle.variable_rules.specs.Forms.{value_slot}

abbrev pub slot_rule : Unit → ℕ → NodeRef → Node → ℕ → Rule
slot_rule u block at node slot = counted_rule u block at.file (nodes_at u at.file) slot node

-- E99; each value is tested in its place.
abbrev pub variable_rule : Unit → ℕ → NodeRef → Node → List Part → Wanted → Rule
variable_rule u block at node ps w = option_map_or (slot_rule u block at node) (value_slot node.kind) (done Quiet)
