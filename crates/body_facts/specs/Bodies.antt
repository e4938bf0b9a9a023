-- The files of a package with their tables, in turn.
use Rattle.std.specs.Prelude.{ℕ, ◌≡◌, ◌<◌, ◌≤◌, ◌^◌, List, Some, length, slice_get, Option}
use Rattle.go_tree.specs.Pieces.{Spelled}
use Rattle.go_tree.specs.declared.tree.FileTree.{FileTree}
use Rattle.go_tree.specs.declared.tree.NodeRef.{NodeRef}
use Rattle.label_uses.specs.declared.answer.Labels.{Labels}
use Rattle.unit_read.specs.Units.{Unit}
use Rattle.body_rules.specs.declared.file.File.{File}
use Rattle.body_rules.specs.Files.{IsFile}
use Rattle.body_rules.specs.Given.{given}
use Rattle.body_facts.specs.declared.facts.Facts.{Facts}
use Rattle.body_facts.specs.Facts.{AreFacts, IsGivenOf}

-- each tree is spelled by the tokens of its text, and its nodes have numbers
pub record AreBodies (texts : List (List ℕ)) (trees : List FileTree) : Type 0 where
  pub size : length texts ≡ length trees
  pub few : length trees ≤ 2 ^ 32
  pub small : (k : ℕ) (t : FileTree) → slice_get trees k ≡ Some t → length t.nodes ≤ 2 ^ 32
  pub spelled : (k : ℕ) (t : FileTree) (s : List ℕ) → slice_get trees k ≡ Some t → slice_get texts k ≡ Some s → Spelled t.tokens s t

-- the tables of the first few files
pub record AreFactsTo (u : Unit) (meant_by : NodeRef → Option NodeRef) (few : ℕ) (list : List Facts) : Type 0 where
  pub size : length list ≡ few
  pub each : (k : ℕ) (t : FileTree) (s : List ℕ) (f : Facts) → slice_get u.trees k ≡ Some t → slice_get u.texts k ≡ Some s → slice_get list k ≡ Some f → AreFacts u meant_by k s t f

-- what is given of a file of a package, as the rules take it
abbrev pub IsTaken : Unit → (NodeRef → Option NodeRef) → ℕ → List ℕ → FileTree → File → Type 0
IsTaken u meant_by k s t f = IsFile (given f) × IsGivenOf u meant_by k s t (given f)

-- the first few files
pub record AreFilesTo (u : Unit) (meant_by : NodeRef → Option NodeRef) (few : ℕ) (list : List File) : Type 0 where
  pub size : length list ≡ few
  pub each : (k : ℕ) (t : FileTree) (s : List ℕ) (f : File) → slice_get u.trees k ≡ Some t → slice_get u.texts k ≡ Some s → slice_get list k ≡ Some f → IsTaken u meant_by k s t f
