-- What is reported file by file is what is reported of all nodes.
use Rattle.std.proofs.Common.{◌≡◌, ◌↔◌, ◌⊎◌, ℕ, ◌<◌, ◌≤◌, ◌^◌, List, [], length, slice_get, Option, Some, None, refl, sym, ap, ◌∙◌, subst, inl, inr, arith}
use Rattle.std.specs.List.{Contains}
use Rattle.std.proofs.lemmas.Option.{slice_get_within}
use Rattle.analysis_core.specs.FoundOrder.{order}
use Rattle.std.specs.List.Sorted.{IsStrictlySortedBy}
use Rattle.go_tree.specs.declared.tree.FileTree.{FileTree}
use Rattle.go_tree.specs.declared.tree.Node.{Node}
use Rattle.go_tree.specs.declared.tree.NodeRef.{NodeRef}
use Rattle.package_objects.specs.Declares.{AreSmall}
use Rattle.typed_marks.specs.declared.item.Item.{Item}
use Rattle.typed_marks.specs.Meanings.{Meaning}
use Rattle.unit_read.specs.Units.{Unit, nodes_of, nodes_at}
use Rattle.analysis_core.specs.declared.diagnostic.Diagnostic.{Diagnostic}
use Rattle.findings.specs.Gains.{Gains}
use Rattle.findings.specs.Reported.{IsReported, AreFindings}
use Rattle.findings.specs.InCode.{reported_below}

-- a file without a tree has no nodes
small_in : (f : ℕ) (o : Option FileTree) → ((tree : FileTree) → o ≡ Some tree → length tree.nodes ≤ 2 ^ 32) → length (nodes_of o) ≤ 2 ^ 32
small_in f None small = omega arith
small_in f (Some tree) small = small tree refl

pub all_small : (u : Unit) (f : ℕ) → AreSmall u.trees → length (nodes_at u f) ≤ 2 ^ 32
all_small u f small = small_in f (slice_get u.trees f) (small f)

file_within : (trees : List FileTree) (f n : ℕ) (node : Node) → slice_get (nodes_of (slice_get trees f)) n ≡ Some node → f < length trees
file_within trees f n node there = by (slice_get trees f) refl there where
  by : (o : Option FileTree) → slice_get trees f ≡ o → slice_get (nodes_of o) n ≡ Some node → f < length trees
  by None e is = absurd cc
  by (Some tree) e is = slice_get_within trees f tree e

pub below_is : (Of : Unit → (Item → Meaning) → NodeRef → Node → Diagnostic → Type 0) (u : Unit) (marks : Item → Meaning) (d : Diagnostic) → reported_below Of u marks d → IsReported Of u marks d
below_is Of u marks d (file, low, (n, below, (node, there, is))) = record { at = record { file = file; node = n }; node = node; stands = there; is = is }

pub is_below : (Of : Unit → (Item → Meaning) → NodeRef → Node → Diagnostic → Type 0) (u : Unit) (marks : Item → Meaning) (d : Diagnostic) → IsReported Of u marks d → reported_below Of u marks d
is_below Of u marks d r =
    (r.at.file, file_within u.trees r.at.file r.at.node r.node r.stands, (r.at.node, slice_get_within (nodes_at u r.at.file) r.at.node r.node r.stands, (r.node, r.stands, r.is)))

-- a list that gained them from nothing, once it is in order
pub settled : (Of : Unit → (Item → Meaning) → NodeRef → Node → Diagnostic → Type 0) (u : Unit) (marks : Item → Meaning) (none gained found : List Diagnostic)
    → none ≡ [] → Gains (reported_below Of u marks) none gained
    → ((d : Diagnostic) → Contains gained d → Contains found d) → ((d : Diagnostic) → Contains found d → Contains gained d) → IsStrictlySortedBy order found
    → AreFindings Of u marks found
settled Of u marks none gained found bare gains keeps adds rises = record {
  each = λ d h. elim ((gains.all d).0 (adds d h)) [
    | inl old ↦ absurd (empty d (subst (λ (l : List Diagnostic). Contains l d) bare old))
    | inr new ↦ below_is Of u marks d new
  ];
  every = λ d r. keeps d ((gains.all d).1 (inr (is_below Of u marks d r)));
  rises = rises;
} where
  empty : (d : Diagnostic) → Contains [] d → ⊥
  empty d (k, low, e) = omega (arith, low)
