-- What is picked from an order of spots.
use Rattle.std.specs.Prelude.{◌≡◌, ℕ, ◌||◌, if◌then◌else◌, Bool, false, List, Option, Some, None, length, slice_get, unwrap_or, option_and_then}
use Rattle.std.specs.List.{filter_map}
use Rattle.std.specs.Option.{option_map_or}
use Rattle.object_order.specs.declared.rows.SpotRows.{SpotRows}
use Rattle.go_tree.specs.declared.tree.NodeRef.{NodeRef}
use Rattle.need_order.specs.declared.needed.Needed as vertex
use Rattle.need_order.specs.Graphs.{Needs, IsFullOrder}
use Rattle.object_order.specs.declared.needed.Needed.{Needed}
use Rattle.object_order.specs.declared.spot.Mode.TheVariants as m
use Rattle.object_order.specs.declared.spot.Spot.{Spot}
use Rattle.object_order.specs.Spots.{spot}
use Rattle.object_order.specs.SpotRows.{kept_in}
use Rattle.object_order.specs.Searches.{key_of}
use Rattle.object_order.specs.Orders.{is_needs}

-- the flag that is kept for a vertex
abbrev pub flag_in : List Bool → ℕ → Bool
flag_in flags n = unwrap_or (slice_get flags n) false

-- the flag of each vertex
abbrev pub AreFlags : List vertex.Needed → List Bool → Type 0
AreFlags order flags = (k : ℕ) (e : vertex.Needed) → slice_get order k ≡ Some e → flag_in flags e.vertex ≡ e.cyclic

-- whether the spot of a type's steps is marked
abbrev pub turn_of : SpotRows → List Bool → NodeRef → Bool
turn_of numbers flags at = option_map_or (λ n. flag_in flags n) (kept_in numbers (key_of (spot m.Steps at))) false

abbrev pub picked_spot : SpotRows → List Bool → Bool → Spot → Option Needed
picked_spot numbers flags cyclic s =
    if is_needs s.mode then Some (record { object = s.at; cyclic = cyclic || turn_of numbers flags s.at }) else None

-- the object of a vertex that is one, marked where it or its steps are
abbrev pub picked : List Spot → SpotRows → List Bool → vertex.Needed → Option Needed
picked found numbers flags e = option_and_then (picked_spot numbers flags e.cyclic) (slice_get found e.vertex)

-- The list is what is picked from a full order of the graph.
pub record IsPicked (found : List Spot) (numbers : SpotRows) (rows : List (List ℕ)) (list : List Needed) : Type 0 where
  pub order : List vertex.Needed
  pub flags : List Bool
  pub full : IsFullOrder (Needs rows) (length rows) order
  pub flagged : AreFlags order flags
  pub list_is : list ≡ filter_map (picked found numbers flags) order
