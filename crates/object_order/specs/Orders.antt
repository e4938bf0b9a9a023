-- What an order of need is, over any relation between objects.
use Rattle.std.specs.Prelude.{◌≡◌, ℕ, ◌<◌, ◌⊎◌, ◌↔◌, IsTrue, Bool, true, false, List, [], ◌∷◌, slice_get, Some}
use Rattle.go_tree.specs.Spells.{Among}
use Rattle.go_tree.specs.declared.tree.NodeRef.{NodeRef}
use Rattle.object_order.specs.declared.needed.Needed.{Needed}
use Rattle.object_order.specs.declared.spot.Mode.{Mode}
use Rattle.object_order.specs.declared.spot.Mode.TheVariants as m
use Rattle.object_order.specs.declared.spot.Spot.{Spot}
use Rattle.object_order.specs.Paths.{Path, Leads}
use Rattle.object_order.specs.Spots.{spot, moves}

-- Each object once, in its place, after each that it needs and from which its needs don't lead back to it; marked exactly where they lead to itself.
pub record IsNeedOrder (needs : NodeRef → NodeRef → Type 0) (is_object : NodeRef → Type 0) (order : List Needed) : Type 0 where
  pub only : (k : ℕ) (e : Needed) → slice_get order k ≡ Some e → is_object e.object
  pub each : (o : NodeRef) → is_object o → (k : ℕ) × (e : Needed) × (slice_get order k ≡ Some e) × (e.object ≡ o)
  pub once : (j k : ℕ) (e f : Needed) → slice_get order j ≡ Some e → slice_get order k ≡ Some f → e.object ≡ f.object → j ≡ k
  pub after : (k : ℕ) (e : Needed) → slice_get order k ≡ Some e → (u : NodeRef) → needs e.object u → ¬ Leads needs u e.object
      → (j : ℕ) × (f : Needed) × (j < k) × (slice_get order j ≡ Some f) × (f.object ≡ u)
  pub cyclic : (k : ℕ) (e : Needed) → slice_get order k ≡ Some e → IsTrue e.cyclic ↔ Leads needs e.object e.object

-- ---- needs, by the search

-- the search goes from the one spot to the other
abbrev pub GoesBy : (Spot → List Spot) → Spot → Spot → Type 0
GoesBy moves s t = Among t (moves s)

abbrev pub is_needs : Mode → Bool
is_needs m.Needs = true
is_needs _ = false

-- none of the spots is an object and what it needs
abbrev pub ArePassed : List Spot → Type 0
ArePassed [] = Unit {0}
ArePassed (s ∷ via) = (is_needs s.mode ≡ false) × ArePassed via

-- the search goes from a spot to the object, by way of no other object and what it needs
abbrev pub Arrives : (Spot → List Spot) → Spot → NodeRef → Type 0
Arrives moves s u = (via : List Spot) × ArePassed via × Path (GoesBy moves) s via (spot m.Needs u)

-- the steps of a type lead to itself
abbrev pub Turns : (Spot → List Spot) → NodeRef → Type 0
Turns moves o = Leads (GoesBy moves) (spot m.Steps o) (spot m.Steps o)

-- What an object needs: what the search finds for it, and itself where its steps lead back.
abbrev pub NeedsBy : (Spot → List Spot) → NodeRef → NodeRef → Type 0
NeedsBy moves o u = Arrives moves (spot m.Needs o) u ⊎ ((u ≡ o) × Turns moves o)
