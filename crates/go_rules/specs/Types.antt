-- Types in expressions (Go 1.17, "Types", "Channel types").
use Rattle.std.specs.Prelude.{ℕ, if◌then◌else◌, List}
use Rattle.go_tree.specs.declared.tree.Node.{Node}
use Rattle.go_tree.specs.declared.tree.NodeRef.{NodeRef}
use Rattle.type_model.specs.declared.term.Dir.TheVariants.{Receive}
use Rattle.unit_read.specs.Units.{Unit}
use Rattle.rule_words.specs.Asking.{Rule}
use Rattle.rule_words.specs.Parts.{Part, part_at}
use Rattle.rule_words.specs.Words.{Wanted}
use Rattle.type_rules.specs.Types.{chan_rule}
use Rattle.primary_rules.specs.Arrows.{is_receiving}
use Rattle.decl_rules.specs.Rules.{decl_rule}

-- a channel type to which an arrow comes is receive-only
abbrev pub type_rule : Unit → ℕ → NodeRef → Node → List Part → Wanted → Rule
type_rule u block at node ps w = if is_receiving u at node then chan_rule Receive (part_at ps 0) else decl_rule u block at node ps w
