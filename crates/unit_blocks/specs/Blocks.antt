-- Which names are declared before in their block, within functions too (Go 1.17, "Declarations and scope": "No identifier may be declared twice in
-- the same block"). `scopes` has the names of a file in the order in which their regions begin. A block within a function is a node of its own,
-- where the regions of its names end.
use Rattle.std.specs.Prelude.{◌≡◌, ℕ, ◌<◌, ◌++◌, Bool, nat_eq, nat_lt, if◌then◌else◌, List, [], ◌∷◌, length, Option, Some, None, slice_get}
use Rattle.std.specs.Global.{Vec}
use Rattle.std.specs.List.{cons_option}
use Rattle.std.specs.Option.{option_map_or}
use Rattle.go_tree.specs.Arena.{arena_of}
use Rattle.go_tree.specs.Forest.{Forest}
use Rattle.go_tree.specs.declared.bindings.Object.{Object}
use Rattle.go_tree.specs.declared.tree.FileTree.{FileTree}
use Rattle.go_tree.specs.declared.tree.NodeRef.{NodeRef}
use Rattle.object_order.specs.Spots.{place}
use Rattle.object_order.specs.Views.{group_in}
use Rattle.package_objects.specs.Declares.{gather}
use Rattle.scopes.specs.Regions.{file_names}
use Rattle.scopes.specs.declared.scope.Named.{Named}
use Rattle.unit_read.specs.Units.{Unit, nodes_at, object_at}
use Rattle.unit_rows.specs.Redeclared.{named_again, redeclared}
use Rattle.unit_rows.specs.Tables.{row_in, is_listed}

-- ---- the names of a file

-- the nodes of a file are those of trees
abbrev pub HasForest : FileTree → Type 0
HasForest tree = (f : Forest) × (arena_of tree.tokens f ≡ tree)

abbrev pub HaveForests : List FileTree → Type 0
HaveForests trees = (f : ℕ) (tree : FileTree) → slice_get trees f ≡ Some tree → HasForest tree

-- these are the names that a file declares
abbrev pub AreNamesOf : FileTree → List Named → Type 0
AreNamesOf tree names = (f : Forest) → arena_of tree.tokens f ≡ tree → names ≡ file_names f

-- those of each file
abbrev pub AreNames : List FileTree → List (Vec Named) → Type 0
AreNames trees rows = (f : ℕ) (tree : FileTree) → slice_get trees f ≡ Some tree → AreNamesOf tree (row_in rows f)

-- ---- the names of a block

-- a name, if it is one of so many nodes
abbrev pub placed_name : ℕ → ℕ → Named → Option NodeRef
placed_name f count d = if nat_lt d.node count then Some (place f d.node) else None

abbrev pub listed_if : Bool → Option NodeRef → List NodeRef
listed_if b o = if b then cons_option o [] else []

abbrev pub if_of_block : ℕ → ℕ → ℕ → Named → List NodeRef
if_of_block f count block d = listed_if (nat_eq d.end block) (placed_name f count d)

abbrev pub nth_of_block : ℕ → ℕ → List Named → ℕ → ℕ → List NodeRef
nth_of_block f count names block i = option_map_or (if_of_block f count block) (slice_get names i) []

-- the names of a block of a file of so many nodes, in the order in which their regions begin
abbrev pub block_names : ℕ → ℕ → List Named → ℕ → List NodeRef
block_names f count names block = gather (nth_of_block f count names block) (length names)

-- ---- names that are declared before

-- A name on the left of `:=` that its block has already is assigned there ("Short variable declarations"): it is a use, and declares nothing.
abbrev pub unless_used : NodeRef → Option Object → List NodeRef
unless_used at None = at ∷ []
unless_used at (Some object) = []

abbrev pub if_declared : Unit → NodeRef → List NodeRef
if_declared u at = unless_used at (object_at u at)

abbrev pub nth_declared : Unit → List NodeRef → ℕ → List NodeRef
nth_declared u nodes i = option_map_or (if_declared u) (slice_get nodes i) []

-- of some names those that are declared where they stand
abbrev pub all_declared : Unit → List NodeRef → List NodeRef
all_declared u nodes = gather (nth_declared u nodes) (length nodes)

-- of some names those that are declared and that an earlier one has
abbrev pub declared_again : Unit → List NodeRef → List NodeRef
declared_again u nodes = named_again u (all_declared u nodes)

abbrev pub again_in_block : Unit → ℕ → List Named → ℕ → List NodeRef
again_in_block u f names block = declared_again u (block_names f (length (nodes_at u f)) names block)

-- those of all blocks within functions of a file
abbrev pub again_in_file : Unit → ℕ → List Named → List NodeRef
again_in_file u f names = gather (again_in_block u f names) (length (nodes_at u f))

abbrev pub again_by : Unit → List (Vec Named) → ℕ → List NodeRef
again_by u names f = again_in_file u f (row_in names f)

abbrev pub inner_again : Unit → List (Vec Named) → List NodeRef
inner_again u names = gather (again_by u names) (length u.trees)

-- E1: the name is declared before in its block: that of the package, or one within a function
abbrev pub is_redeclared : Unit → List (Vec Named) → NodeRef → Bool
is_redeclared u names at = is_listed u.trees (redeclared u ++ inner_again u names) at

-- the flags are those of the names that the trees declare
pub record AreAgain (u : Unit) (flags : NodeRef → Bool) : Type 0 where
  pub rows : List (Vec Named)
  pub names : AreNames u.trees rows
  pub each : (at : NodeRef) → flags at ≡ is_redeclared u rows at

-- ---- groups

-- one group has one more, and the others have what they had
pub record PushesAt (old new : List (Vec NodeRef)) (n : ℕ) (at : NodeRef) : Type 0 where
  pub size : length new ≡ length old
  pub here : group_in new n ≡ group_in old n ++ (at ∷ [])
  pub others : (k : ℕ) → (k ≡ n → ⊥) → group_in new k ≡ group_in old k

-- what there is is added to a group, if there is such a group
pub record AddsAt (old new : List (Vec NodeRef)) (n : ℕ) (o : Option NodeRef) : Type 0 where
  pub size : length new ≡ length old
  pub each : (k : ℕ) → k < length old → group_in new k ≡ group_in old k ++ listed_if (nat_eq n k) o

-- the groups have the first few names, each in its block
pub record AreBlocks (f count : ℕ) (names : List Named) (n : ℕ) (groups : List (Vec NodeRef)) : Type 0 where
  pub size : length groups ≡ count
  pub each : (k : ℕ) → k < count → group_in groups k ≡ gather (nth_of_block f count names k) n

-- of each group those that are declared and that an earlier one has
abbrev pub again_at : Unit → List (Vec NodeRef) → ℕ → List NodeRef
again_at u groups k = declared_again u (group_in groups k)
