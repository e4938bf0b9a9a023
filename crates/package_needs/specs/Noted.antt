-- Names that are noted in rows, one node at a time.
use Rattle.std.specs.Prelude.{◌≡◌, ℕ, ◌⊎◌, List, Option, Some, length, slice_get}
use Rattle.std.specs.Global.{Vec}
use Rattle.go_tree.specs.declared.tree.NodeRef.{NodeRef}

-- the cell of the node has the name, if there is one, and the others have what they had
pub record NotesIn (old new : List (Option NodeRef)) (n : ℕ) (name : Option NodeRef) : Type 0 where
  pub size : length new ≡ length old
  pub each : (k : ℕ) (o : Option NodeRef) → slice_get new k ≡ Some o → ((k ≡ n → ⊥) × (slice_get old k ≡ Some o)) ⊎ ((k ≡ n) × (name ≡ o))

-- the row of the file has, if there is one, and the others are what they were
pub record Notes (old new : List (Vec (Option NodeRef))) (file node : ℕ) (name : Option NodeRef) : Type 0 where
  pub size : length new ≡ length old
  pub each : (f : ℕ) (row : Vec (Option NodeRef)) → slice_get new f ≡ Some row
      → ((f ≡ file → ⊥) × (slice_get old f ≡ Some row)) ⊎ ((f ≡ file) × ((was : Vec (Option NodeRef)) × (slice_get old f ≡ Some was) × NotesIn was.items row.items node name))
