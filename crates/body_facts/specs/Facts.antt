-- What the late rules of bodies are given of a file, and what they find in a package.
use Rattle.std.specs.Prelude.{ℕ, ◌≡◌, List, Option, Some, None, length, slice_get}
use Rattle.go_tree.specs.declared.tree.FileTree.{FileTree}
use Rattle.go_tree.specs.declared.tree.NodeRef.{NodeRef}
use Rattle.label_uses.specs.Labels.{IsRepeated}
use Rattle.late_list.specs.declared.late.LateFault.{LateFault}
use Rattle.late_list.specs.Late.{IsFoundIn}
use Rattle.shadowed_results.specs.Shadows.{AreShadowed}
use Rattle.unit_read.specs.Units.{Unit}
use Rattle.body_rules.specs.Files.{IsFaultIn, node_count}
use Rattle.body_rules.specs.Given.{Given}
use Rattle.body_facts.specs.declared.facts.Facts.{Facts}
use Rattle.body_facts.specs.LabelTables.{AreDenoted, AreFlagsOf, IsIdle}
use Rattle.body_facts.specs.NameTables.{AreValues, meant_at, ArePanics, AreVariables}

-- Each table is right; what nodes mean is given.
pub record AreFacts (u : Unit) (meant_by : NodeRef → Option NodeRef) (number : ℕ) (bytes : List ℕ) (tree : FileTree) (f : Facts) : Type 0 where
  pub labels : AreDenoted bytes tree f.labels.items
  pub repeated : AreFlagsOf (IsRepeated bytes tree) (length tree.nodes) f.repeated.items
  pub unused : AreFlagsOf (IsIdle bytes tree) (length tree.nodes) f.unused.items
  pub shadowed : AreShadowed bytes tree f.shadowed.items
  pub panics : ArePanics u number tree.nodes f.panics.items
  pub variables : AreVariables u number tree.nodes f.variables.items
  pub meant : AreValues (meant_at meant_by number) None (length tree.nodes) f.meant.items

-- what is given of a file of a package
pub record IsGivenOf (u : Unit) (meant_by : NodeRef → Option NodeRef) (number : ℕ) (bytes : List ℕ) (tree : FileTree) (g : Given) : Type 0 where
  pub number_is : g.number ≡ number
  pub nodes : g.nodes ≡ tree.nodes
  pub tokens : g.tokens ≡ tree.tokens
  pub labels : AreDenoted bytes tree g.labels
  pub repeated : AreFlagsOf (IsRepeated bytes tree) (length tree.nodes) g.repeated
  pub unused : AreFlagsOf (IsIdle bytes tree) (length tree.nodes) g.unused
  pub shadowed : AreShadowed bytes tree g.shadowed
  pub panics : ArePanics u number tree.nodes g.panics
  pub variables : AreVariables u number tree.nodes g.variables
  pub meant : AreValues (meant_at meant_by number) None (length tree.nodes) g.meant

-- some late rule of bodies finds the fault in a file of the package
pub record IsBodyFault (u : Unit) (meant_by : NodeRef → Option NodeRef) (x : LateFault) : Type 0 where
  pub number : ℕ
  pub tree : FileTree
  pub text : List ℕ
  pub has_tree : slice_get u.trees number ≡ Some tree
  pub has_text : slice_get u.texts number ≡ Some text
  pub g : Given
  pub is_given : IsGivenOf u meant_by number text tree g
  pub found : IsFoundIn IsFaultIn node_count g x
