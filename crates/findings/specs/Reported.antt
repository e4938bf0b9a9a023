-- What an analyzer reports of a package: what it reports of each of its nodes.
use Rattle.std.specs.Prelude.{◌≡◌, List, Some}
use Rattle.go_tree.specs.declared.tree.Node.{Node}
use Rattle.go_tree.specs.declared.tree.NodeRef.{NodeRef}
use Rattle.typed_marks.specs.declared.item.Item.{Item}
use Rattle.typed_marks.specs.Meanings.{Meaning}
use Rattle.unit_read.specs.Units.{Unit, node_at}
use Rattle.analysis_core.specs.FoundOrder.{AreInOrder, order}
use Rattle.analysis_core.specs.declared.diagnostic.Diagnostic.{Diagnostic}

-- it is reported of some node
pub record IsReported (Of : Unit → (Item → Meaning) → NodeRef → Node → Diagnostic → Type 0) (u : Unit) (marks : Item → Meaning) (d : Diagnostic) : Type 0 where
  pub at : NodeRef
  pub node : Node
  pub stands : node_at u at ≡ Some node
  pub «is» : Of u marks at node d

-- Exactly what is reported, in the order of diagnostics, each once.
abbrev pub AreFindings : (Unit → (Item → Meaning) → NodeRef → Node → Diagnostic → Type 0) → Unit → (Item → Meaning) → List Diagnostic → Type 0
AreFindings Of u marks found = AreInOrder order (IsReported Of u marks) found
