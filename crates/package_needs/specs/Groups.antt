-- The methods of all types, gathered node by node.
use Rattle.std.specs.Prelude.{◌≡◌, ◌↔◌, ◌⊎◌, ℕ, ◌<◌, List, [], ◌∷◌, ◌++◌, length, Option, Some}
use Rattle.std.specs.Global.{Vec}
use Rattle.std.specs.HashMap.{HashMap}
use Rattle.go_tree.specs.Spells.{Among}
use Rattle.go_tree.specs.declared.tree.NodeRef.{NodeRef}
use Rattle.object_order.specs.Spots.{World, place}
use Rattle.object_order.specs.Views.{group_in, kin_in}
use Rattle.package_needs.specs.declared.kin.Method.{Method}
use Rattle.package_needs.specs.Kin.{IsMethod}

-- one group has one more, and the others have what they had
pub record PushesAt (old new : List (Vec NodeRef)) (n : ℕ) (m : NodeRef) : Type 0 where
  pub size : length new ≡ length old
  pub here : group_in new n ≡ group_in old n ++ (m ∷ [])
  pub others : (k : ℕ) → (k ≡ n → ⊥) → group_in new k ≡ group_in old k

-- these are gained
abbrev pub Gains : (NodeRef → List NodeRef) → (NodeRef → List NodeRef) → (NodeRef → NodeRef → Type 0) → Type 0
Gains old new gained = (t m : NodeRef) → Among m (new t) ↔ (Among m (old t) ⊎ gained t m)

-- the groups gain these methods
pub record GroupsGain {S : Type 0} (numbers : HashMap (ℕ × ℕ) ℕ S) (old new : List (Vec NodeRef)) (gained : NodeRef → NodeRef → Type 0) : Type 0 where
  pub size : length new ≡ length old
  pub gains : Gains (kin_in old numbers) (kin_in new numbers) gained

abbrev pub IsThis : Option Method → NodeRef → NodeRef → Type 0
IsThis o t m = o ≡ Some (record { of = t; name = m })

-- the methods that the first few nodes of a file declare
abbrev pub InNodes : World → ℕ → ℕ → NodeRef → NodeRef → Type 0
InNodes w file end t m = (n : ℕ) × (n < end) × IsMethod w (place file n) t m

-- the methods that the first few files declare
abbrev pub InFiles : World → ℕ → NodeRef → NodeRef → Type 0
InFiles w end t m = (at : NodeRef) × (at.file < end) × IsMethod w at t m
