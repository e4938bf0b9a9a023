-- What is known of functions by name and of files, in code.
use Rattle.std.specs.Prelude.{◌≡◌, ◌↔◌, ◌<◌, ◌^◌, ℕ, Bool, true, List, length, map, Option, Some, slice_get, option_map, option_and_then}
use Rattle.std.specs.List.{Contains}
use Rattle.fact_codec.specs.declared.units.Never.{Never}
use Rattle.file_flow.specs.Told.{AreTold}
use Rattle.flow.specs.Search.{IsGraph}
use Rattle.go_tree.specs.Lexeme.{place_of}
use Rattle.go_tree.specs.declared.tree.FileTree.{FileTree}
use Rattle.go_tree.specs.declared.tree.NodeRef.{NodeRef}
use Rattle.handed_facts.specs.Handed.{path_in}
use Rattle.least.specs.Numbered.{is_marked}
use Rattle.least.specs.Tables.{Member}
use Rattle.least.specs.Work.{set_of}
use Rattle.never_returns.specs.declared.files.Block.{Block}
use Rattle.never_returns.specs.declared.files.FileFlow.{FileFlow}
use Rattle.never_returns.specs.declared.files.Function.{Function}
use Rattle.own_functions.specs.Functions.{functions, names, nth_name, first_of, number, declared_at, block_at}
use Rattle.typed_marks.specs.declared.item.Item.{Item}
use Rattle.typed_marks.specs.Meanings.{Meaning}
use Rattle.unit_read.specs.Index.{found}
use Rattle.unit_read.specs.Units.{Unit, text_in, tree_at, nodes_at}
use Rattle.vet_never.specs.declared.calls.Known.{Known}
use Rattle.vet_never.specs.declared.files.FileKnown.{FileKnown}
use Rattle.vet_never.specs.declared.told.Told.{Told}
use Rattle.vet_never.specs.Listed.{is_listed_name}
use Rattle.vet_never.specs.InCode.{handed_by, AreCallees, AreCalls}
use Rattle.vet_never.specs.Never.{fact_name}

-- the members that are handed in
abbrev pub handed_in : Known → Member → Bool
handed_in k = handed_by k.handed.now.given.now k.handed.now.tables.items

-- of which package it is known
pub record IsKnown (u : Unit) (k : Known) : Type 0 where
  pub by_path : (q : List ℕ) → found k.handed.now.places q ≡ place_of (map path_in k.handed.now.given.now) q
  pub numbers : (q : List ℕ) → found k.numbers.now q ≡ place_of (names u) q
  pub few : length (functions u) < 2 ^ 32

-- ---- files

-- what is known of a file of the package, whose nodes call these
pub record IsFileKnown (u : Unit) (marks : Item → Meaning) (k : Known) (f : ℕ) (tree : FileTree) (row : List Told) (x : FileKnown) : Type 0 where
  pub told : AreTold (text_in u f) tree x.labels.items
  pub graph : IsGraph tree x.labels.items x.graph
  pub callees : AreCallees u marks f (length tree.nodes) row
  pub calls : AreCalls (handed_in k) (number 0 u) row x.calls.items

-- of each of the first few
pub record AreFilesKnown (u : Unit) (marks : Item → Meaning) (k : Known) (n : ℕ) (list : List FileKnown) : Type 0 where
  pub rows : List (List Told)
  pub size : length list ≡ n
  pub rows_size : length rows ≡ n
  pub each : (f : ℕ) (tree : FileTree) (x : FileKnown) (row : List Told) → tree_at u f ≡ Some tree → slice_get list f ≡ Some x → slice_get rows f ≡ Some row → IsFileKnown u marks k f tree row x

-- a file as it is handed on
pub record IsLent (trees : List FileTree) (list : List FileKnown) (f : ℕ) (x : FileFlow) : Type 0 where
  pub tree : FileTree
  pub known : FileKnown
  pub tree_there : slice_get trees f ≡ Some tree
  pub known_there : slice_get list f ≡ Some known
  pub tree_is : x.tree.now ≡ tree
  pub labels_are : x.labels.now ≡ known.labels.items
  pub graph_is : x.graph.now ≡ known.graph
  pub calls_are : x.calls.now ≡ known.calls.items

pub record AreLent (trees : List FileTree) (list : List FileKnown) (n : ℕ) (flows : List FileFlow) : Type 0 where
  pub size : length flows ≡ n
  pub each : (f : ℕ) (x : FileFlow) → slice_get flows f ≡ Some x → IsLent trees list f x

-- ---- functions

abbrev pub block_in : NodeRef → ℕ → Block
block_in at n = record { file = at.file; node = n }

abbrev pub block_told : Unit → NodeRef → Option Block
block_told u at = option_map (block_in at) (block_at (nodes_at u at.file) at.node)

-- the body of the first function or method of a name
abbrev pub body_told : Unit → List ℕ → Option Block
body_told u name = option_and_then (block_told u) (declared_at u name)

-- the function of a number
pub record IsFunction (u : Unit) (i : ℕ) (g : Function) : Type 0 where
  pub listed_is : g.listed ≡ is_listed_name u.path (nth_name u i)
  pub body_is : g.body ≡ body_told u (nth_name u i)

pub record AreFunctions (u : Unit) (n : ℕ) (list : List Function) : Type 0 where
  pub size : length list ≡ n
  pub each : (i : ℕ) (g : Function) → slice_get list i ≡ Some g → IsFunction u i g

-- ---- facts

-- some of the first few functions has the name, and the first of the name is flagged
abbrev pub IsFlagged : Unit → List Bool → ℕ → List ℕ → Type 0
IsFlagged u flags n name = (i : ℕ) × (i < n) × (nth_name u i ≡ name) × (is_marked (set_of flags) (first_of u name) ≡ true)

-- the table has the names of those
pub record AreFlaggedNames (u : Unit) (flags : List Bool) (n : ℕ) (table : List (List ℕ × Never)) : Type 0 where
  pub each : (name : List ℕ) → Contains (map fact_name table) name ↔ IsFlagged u flags n name
