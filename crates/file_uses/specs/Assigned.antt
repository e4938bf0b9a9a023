-- Names on the left of `:=` by number.
use Rattle.std.specs.Prelude.{ℕ, ◌<◌, ◌≡◌, ◌⊎◌, ◌&&◌, Bool, true, false, not, cond, List, length, map, get_or, Option, Some, slice_get}
use Rattle.scopes.specs.declared.scope.Named.{Named}
use Rattle.go_tree.specs.declared.tree.Node.{Node}
use Rattle.scopes.specs.declared.visible.Declaration.{Declaration}
use Rattle.file_uses.specs.Locals.{IsAssigned}
use Rattle.scopes.specs.Denotes.{IsFlags}
use Rattle.file_uses.specs.Numbers.{number}
use Rattle.file_uses.specs.Uses.{IsSet, IsPlain, ArePlain}

-- a name on the left of `:=`, in the block of its statement; others have a number that no name has
abbrev pub keyed : (ℕ → ℕ) → ℕ → Named → Declaration
keyed number count d = record { name = cond d.soft (number d.node) count; start = d.start; «end» = d.start; local = true }

-- one flag more is set
pub record SetAlso (old new : List Bool) (at : ℕ) : Type 0 where
  pub size : length new ≡ length old
  pub kept : (n : ℕ) → IsSet old n → IsSet new n
  pub there : at < length old → IsSet new at
  pub only : (n : ℕ) → IsSet new n → IsSet old n ⊎ (n ≡ at)

-- one flag more is set, or none
abbrev pub Marks : Bool → List Bool → List Bool → ℕ → Type 0
Marks true old new at = SetAlso old new at
Marks false old new at = new ≡ old

-- the flag of the k-th declaration's node is set
abbrev pub IsMarked : List Named → List Bool → List Bool → ℕ → Named → Type 0
IsMarked ds first once k d = (slice_get ds k ≡ Some d) × ((d.soft && (not (get_or first k false) && get_or once k false)) ≡ true)

-- the flags of the nodes of those among the first few are set
pub record AreMarked (ds : List Named) (first once : List Bool) (i : ℕ) (old new : List Bool) : Type 0 where
  pub size : length new ≡ length old
  pub kept : (n : ℕ) → IsSet old n → IsSet new n
  pub there : (k : ℕ) (d : Named) → k < i → IsMarked ds first once k d → d.node < length old → IsSet new d.node
  pub only : (n : ℕ) → IsSet new n → IsSet old n ⊎ ((k : ℕ) × (d : Named) × IsMarked ds first once k d × (d.node ≡ n))

-- the flags of the uses, as far as the names of nodes tell
pub record AreUses (name : ℕ → Option (List ℕ)) (nodes : List Node) (ds : List Named) (flags : List Bool) : Type 0 where
  pub size : length flags ≡ length nodes
  pub uses : (n : ℕ) → IsSet flags n → IsPlain nodes n ⊎ IsAssigned name ds n
  pub all : (n : ℕ) → n < length nodes → IsPlain nodes n ⊎ IsAssigned name ds n → IsSet flags n

-- the flags of the uses, from the names by number
pub record AreFlagged (nodes : List Node) (ds : List Named) (numbers : List ℕ) (count : ℕ) (first : List Bool) (flags : List Bool) : Type 0 where
  pub once : List Bool
  pub plain : List Bool
  pub onces : IsFlags (map (keyed (number numbers) count) ds) once
  pub plains : ArePlain nodes plain
  pub marked : AreMarked ds first once (length ds) plain flags
