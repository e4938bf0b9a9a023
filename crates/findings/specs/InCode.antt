-- What is reported, as it is found: node by node, and file by file.
use Rattle.std.specs.Prelude.{ℕ, length}
use Rattle.go_tree.specs.declared.tree.Node.{Node}
use Rattle.go_tree.specs.declared.tree.NodeRef.{NodeRef}
use Rattle.object_order.specs.Spots.{place}
use Rattle.typed_marks.specs.declared.item.Item.{Item}
use Rattle.typed_marks.specs.Meanings.{Meaning}
use Rattle.unit_read.specs.Units.{Unit, node_at, nodes_at}
use Rattle.analysis_core.specs.declared.diagnostic.Diagnostic.{Diagnostic}
use Rattle.findings.specs.Gains.{SomeBelow, OfSome}

-- of the node of a number, if it is there
abbrev pub reported_at : (Unit → (Item → Meaning) → NodeRef → Node → Diagnostic → Type 0) → Unit → (Item → Meaning) → NodeRef → Diagnostic → Type 0
reported_at Of u marks at d = OfSome (node_at u at) (Of u marks at) d

abbrev pub reported_nth : (Unit → (Item → Meaning) → NodeRef → Node → Diagnostic → Type 0) → Unit → (Item → Meaning) → ℕ → ℕ → Diagnostic → Type 0
reported_nth Of u marks file n d = reported_at Of u marks (place file n) d

-- of the nodes of a file
abbrev pub reported_in : (Unit → (Item → Meaning) → NodeRef → Node → Diagnostic → Type 0) → Unit → (Item → Meaning) → ℕ → Diagnostic → Type 0
reported_in Of u marks file d = SomeBelow (length (nodes_at u file)) (reported_nth Of u marks file) d

-- of those of all files
abbrev pub reported_below : (Unit → (Item → Meaning) → NodeRef → Node → Diagnostic → Type 0) → Unit → (Item → Meaning) → Diagnostic → Type 0
reported_below Of u marks d = SomeBelow (length u.trees) (reported_in Of u marks) d
