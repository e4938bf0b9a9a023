-- unreachable: statements that can't be reached.
use Rattle.std.specs.Prelude.{◌≡◌, ◌↔◌, ◌==◌, ℕ, zero, suc, ◌<◌, Bool, true, false, if◌then◌else◌, List, codes, length, Option, Some, None, slice_get, slice_index_or}
use Rattle.std.specs.Option.{option_map_or}
use Rattle.std.specs.Global.{Vec}
use Rattle.go_tree.specs.Pieces.{Spelled}
use Rattle.go_tree.specs.declared.tree.FileTree.{FileTree}
use Rattle.go_tree.specs.declared.tree.Node.{Node}
use Rattle.go_tree.specs.declared.tree.NodeRef.{NodeRef}
use Rattle.object_order.specs.Spots.{place}
use Rattle.typed_marks.specs.declared.item.Item.{Item}
use Rattle.typed_marks.specs.Meanings.{Meaning}
use Rattle.unit_read.specs.Units.{Unit, text_in, tree_at, nodes_at, node_at}
use Rattle.flow.specs.Passing.{IsUnreached}
use Rattle.file_flow.specs.File.{calls_panic}
use Rattle.file_flow.specs.Told.{AreTold}
use Rattle.analysis_core.specs.declared.analyzer_name.AnalyzerName.TheVariants as analyzer
use Rattle.analysis_core.specs.declared.diagnostic.Diagnostic.{Diagnostic}
use Rattle.findings.specs.Reported.{AreFindings}
use Rattle.vet_words.specs.Diagnosing.{diagnosed}

-- by the labels of the file and its calls of `panic`, the node is a statement that can't be reached
pub record IsDead (bytes : List ℕ) (tree : FileTree) (n : ℕ) : Type 0 where
  pub labels : List (Option ℕ)
  pub told : AreTold bytes tree labels
  pub dead : IsUnreached tree labels (calls_panic bytes tree) n

-- in a file of a package
abbrev pub IsDeadAt : Unit → NodeRef → Type 0
IsDeadAt u at = (tree : FileTree) × (tree_at u at.file ≡ Some tree) × IsDead (text_in u at.file) tree at.node

-- A statement that can't be reached, at the statement.
abbrev pub IsUnreachable : Unit → (Item → Meaning) → NodeRef → Node → Diagnostic → Type 0
IsUnreachable u marks at node d = IsDeadAt u at × (d ≡ diagnosed u at.file analyzer.Unreachable (codes "unreachable code") None node)

abbrev pub AreUnreachable : Unit → (Item → Meaning) → List Diagnostic → Type 0
AreUnreachable u marks found = AreFindings IsUnreachable u marks found

-- ---- what is asked of a package

-- each tree is spelled by its tokens
abbrev pub AreTreesSpelled : Unit → Type 0
AreTreesSpelled u = (f : ℕ) (tree : FileTree) → tree_at u f ≡ Some tree → Spelled tree.tokens (text_in u f) tree

-- ---- in code

abbrev pub flag_at : List Bool → ℕ → Bool
flag_at flags n = slice_index_or flags n false

-- so many flags, none of them set
pub record AreUnset (count : ℕ) (flags : List Bool) : Type 0 where
  pub size : length flags ≡ count
  pub each : (n : ℕ) → flag_at flags n ≡ false

-- a flag is set, if it is there
pub record IsSet (n : ℕ) (old new : List Bool) : Type 0 where
  pub size : length new ≡ length old
  pub each : (m : ℕ) → m < length old → flag_at new m ≡ (if n == m then true else flag_at old m)

-- that of a number, if there is one
abbrev pub IsSetFor : Option ℕ → List Bool → List Bool → Type 0
IsSetFor (Some n) old new = IsSet n old new
IsSetFor None old new = new ≡ old

abbrev pub is_that : ℕ → ℕ → Bool
is_that m n = n == m

-- one of the first few numbers is this one
abbrev pub is_among : List ℕ → ℕ → ℕ → Bool
is_among numbers m zero = false
is_among numbers m (suc i) = if option_map_or (is_that m) (slice_get numbers i) false then true else is_among numbers m i

-- the flags of the first few numbers are set
pub record AreSet (numbers : List ℕ) (i count : ℕ) (flags : List Bool) : Type 0 where
  pub size : length flags ≡ count
  pub each : (m : ℕ) → m < count → flag_at flags m ≡ is_among numbers m i

-- the flags of a file's nodes
abbrev pub AreDeadFlags : List ℕ → FileTree → List Bool → Type 0
AreDeadFlags bytes tree flags = (n : ℕ) → n < length tree.nodes → (flag_at flags n ≡ true) ↔ IsDead bytes tree n

abbrev pub IsDeadRow : Unit → ℕ → List Bool → Type 0
IsDeadRow u f row = (n : ℕ) (node : Node) → slice_get (nodes_at u f) n ≡ Some node → (flag_at row n ≡ true) ↔ IsDeadAt u (place f n)

-- the rows of the first few files
pub record AreDeadRows (u : Unit) (count : ℕ) (rows : List (Vec Bool)) : Type 0 where
  pub size : length rows ≡ count
  pub each : (f : ℕ) (row : Vec Bool) → slice_get rows f ≡ Some row → IsDeadRow u f row.items

-- each node of a package has its flag
abbrev pub AreDeadIn : Unit → (NodeRef → Bool) → Type 0
AreDeadIn u dead = (at : NodeRef) (node : Node) → node_at u at ≡ Some node → (dead at ≡ true) ↔ IsDeadAt u at
