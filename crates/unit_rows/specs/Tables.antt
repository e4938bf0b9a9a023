-- Tables that are filled node by node.
use Rattle.std.specs.Prelude.{◌≡◌, ℕ, ◌<◌, ◌==◌, Bool, true, false, List, [], length, map, is_some, Option, Some, None, slice_get, slice_index_or}
use Rattle.std.specs.Global.{Vec}
use Rattle.std.specs.Option.{option_map_or}
use Rattle.go_tree.specs.declared.tree.FileTree.{FileTree}
use Rattle.go_tree.specs.declared.tree.Node.{Node}
use Rattle.go_tree.specs.declared.tree.NodeRef.{NodeRef}
use Rattle.unit_read.specs.Places.{put_at}
use Rattle.unit_read.specs.Units.{nodes_of, is_among}

abbrev pub row_in : {X : Type 0} → List (Vec X) → ℕ → List X
row_in {X} rows f = option_map_or (λ (row : Vec X). row.items) (slice_get rows f) []

-- the value stands in the row at this number, unless one stood there
pub record PutsAt {X : Type 0} (old new : List (Option X)) (n : ℕ) (value : X) : Type 0 where
  pub size : length new ≡ length old
  pub each : (m : ℕ) → m < length old → slice_index_or new m None ≡ put_at (slice_index_or old m None) (n == m) value

-- the value stands in the row of this file, and the other rows are as they were
pub record PutsIn {X : Type 0} (old new : List (Vec (Option X))) (f n : ℕ) (value : X) : Type 0 where
  pub size : length new ≡ length old
  pub here : PutsAt (row_in old f) (row_in new f) n value
  pub others : (g : ℕ) → (g ≡ f → ⊥) → row_in new g ≡ row_in old g

-- nothing is said of any node
abbrev pub nothing : {X : Type 0} → ℕ → FileTree → ℕ → Option X
nothing f tree n = None

-- what stands next in a list has its place put
abbrev pub PutsNext : List (Vec (Option ℕ)) → List (Vec (Option ℕ)) → Option NodeRef → ℕ → Type 0
PutsNext old new None value = new ≡ old
PutsNext old new (Some at) value = PutsIn old new at.file at.node value

-- nothing stands there
abbrev pub is_gap : Option NodeRef → Bool
is_gap None = true
is_gap (Some at) = false

-- ---- flags

abbrev pub some_node : NodeRef → Option NodeRef
some_node at = Some at

abbrev pub items_of : Vec Bool → List Bool
items_of row = row.items

-- whether something stands in the cells of a row
abbrev pub flags_of : Vec (Option ℕ) → List Bool
flags_of row = map is_some row.items

-- the node stands in the list
abbrev pub is_listed : List FileTree → List NodeRef → NodeRef → Bool
is_listed trees list at = option_map_or (λ (node : Node). is_among at list) (slice_get (nodes_of (slice_get trees at.file)) at.node) false
