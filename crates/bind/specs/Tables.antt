-- Names with the first of the nodes at which they are declared.
use Rattle.std.specs.Prelude.{ℕ, ◌≡◌, ◌⊎◌, List, [], map, Bool, true, false, Option, Some, None, slice_get, bytes_eq}
use Rattle.std.specs.List.{Contains}
use denote.Ref.{Bor}
use Rattle.std.specs.HashMap.{HashMap, get_by}
use Rattle.gv_base.specs.Files.{is_before}
use Rattle.go_tree.specs.Bindings.{IsBefore}
use Rattle.go_tree.specs.declared.tree.NodeRef.{NodeRef}
use Rattle.bind.specs.declared.file.File.{File}
use Rattle.bind.specs.declared.table.Declared.{Declared}

-- the node that a name has
abbrev pub found : {S : Type 0} → HashMap (Bor (List ℕ)) NodeRef S → List ℕ → Option NodeRef
found table name = get_by (λ key. bytes_eq name key.now) table

abbrev pub path_in : Option File → List ℕ
path_in (Some f) = f.path.now
path_in None = []

-- the path of a file, empty past the files
abbrev pub path_of : List File → ℕ → List ℕ
path_of files f = path_in (slice_get files f)

-- a node comes before another: by the path of its file, then by file, then by number
abbrev pub IsEarlierBy : (ℕ → List ℕ) → NodeRef → NodeRef → Type 0
IsEarlierBy path a b = (is_before (path a.file) (path b.file) ≡ true) ⊎ ((path a.file ≡ path b.file) × IsBefore a b)

-- the node that is kept is no later, or there is none that isn't
abbrev pub Stays : (ℕ → List ℕ) → Option NodeRef → NodeRef → Bool → Type 0
Stays path kept at true = (node : NodeRef) × (kept ≡ Some node) × (IsEarlierBy path at node → ⊥)
Stays path kept at false = (node : NodeRef) → kept ≡ Some node → IsEarlierBy path at node

-- the one of two nodes that is kept
abbrev pub Keeps : (ℕ → List ℕ) → Option NodeRef → NodeRef → Option NodeRef → Type 0
Keeps path None at new = new ≡ Some at
Keeps path (Some kept) at new = (IsEarlierBy path at kept × (new ≡ Some at)) ⊎ ((IsEarlierBy path at kept → ⊥) × (new ≡ Some kept))

-- the name has the earlier of its node and this one, and the others have theirs
pub record Adds (path : ℕ → List ℕ) (old new : List ℕ → Option NodeRef) (name : List ℕ) (at : NodeRef) : Type 0 where
  pub this : Keeps path (old name) at (new name)
  pub others : (q : List ℕ) → (name ≡ q → ⊥) → new q ≡ old q

abbrev pub pairs : List Declared → List (List ℕ × NodeRef)
pairs all = map (λ (d : Declared). (d.name.now, d.at)) all

-- the node is the earliest of a name's, or there is none
abbrev pub IsEarliestOf : (ℕ → List ℕ) → List (List ℕ × NodeRef) → List ℕ → Option NodeRef → Type 0
IsEarliestOf path all name (Some at) = Contains all (name, at) × ((other : NodeRef) → Contains all (name, other) → IsEarlierBy path other at → ⊥)
IsEarliestOf path all name None = (other : NodeRef) → Contains all (name, other) → ⊥

abbrev pub IsEarliest : (ℕ → List ℕ) → List (List ℕ × NodeRef) → (List ℕ → Option NodeRef) → Type 0
IsEarliest path all table = (name : List ℕ) → IsEarliestOf path all name (table name)
