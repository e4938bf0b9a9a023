-- Where the nodes of a file stand. A list of names or expressions is no place of its own: what it lists stands in the node around it.
use Rattle.std.specs.Prelude.{◌≡◌, ℕ, ◌<◌, ◌==◌, Bool, true, false, if◌then◌else◌, List, [], ◌∷◌, length, Option, Some, None, slice_get, slice_index_or}
use Rattle.std.specs.Option.{option_map_or}
use Rattle.go_tree.specs.declared.tree.Node.{Node}
use Rattle.package_objects.specs.Declares.{gather, items, part, is_list}
use Rattle.unit_read.specs.declared.place.Place.{Place}
use Rattle.unit_read.specs.declared.place.Standing.{Standing}

abbrev pub stands : ℕ → ℕ → ℕ → ℕ → Standing
stands around slot index n = record { node = n; place = record { around = around; slot = slot; index = index } }

abbrev pub standing : ℕ → ℕ → ℕ → Option ℕ → List Standing
standing around slot index None = []
standing around slot index (Some n) = stands around slot index n ∷ []

-- the item at a place of a part: the part itself, or what it lists
abbrev pub nth_item : List Node → ℕ → ℕ → Option ℕ → ℕ → List Standing
nth_item nodes around slot list index = standing around slot index (slice_get (items nodes list) index)

abbrev pub part_items : List Node → ℕ → ℕ → Option ℕ → List Standing
part_items nodes around slot list = gather (nth_item nodes around slot list) (length (items nodes list))

abbrev pub nth_part : List Node → ℕ → Node → ℕ → List Standing
nth_part nodes around node slot = part_items nodes around slot (part node slot)

-- what stands in a node; in a list nothing does
abbrev pub standing_in : List Node → ℕ → Node → List Standing
standing_in nodes around node = if is_list node.kind then [] else gather (nth_part nodes around node) (length node.parts)

abbrev pub standing_at : List Node → ℕ → List Standing
standing_at nodes n = option_map_or (standing_in nodes n) (slice_get nodes n) []

-- what stands in the nodes of a file
abbrev pub all_standing : List Node → List Standing
all_standing nodes = gather (standing_at nodes) (length nodes)

abbrev pub first_for : ℕ → List Standing → Option Place
first_for n [] = None
first_for n (s ∷ list) = if s.node == n then Some s.place else first_for n list

-- Where a node stands; None where it stands in no other, or is a list.
abbrev pub place_of : List Node → ℕ → Option Place
place_of nodes n = first_for n (all_standing nodes)

-- ---- a row of places

-- what is put stands there, unless something stood there
abbrev pub put_at : {X : Type 0} → Option X → Bool → X → Option X
put_at (Some old) here p = Some old
put_at None true p = Some p
put_at None false p = None

-- the place stands in the row of its node, unless one stood there
pub record Puts (old new : List (Option Place)) (s : Standing) : Type 0 where
  pub size : length new ≡ length old
  pub each : (n : ℕ) → n < length old → slice_index_or new n None ≡ put_at (slice_index_or old n None) (s.node == n) s.place

-- what was there stays, and else this comes
abbrev pub first_of : {X : Type 0} → Option X → Option X → Option X
first_of (Some old) o = Some old
first_of None o = o

-- each place of a list stands in the row of its node, unless one stood there
pub record PutsAll (old new : List (Option Place)) (list : List Standing) : Type 0 where
  pub size : length new ≡ length old
  pub each : (n : ℕ) → n < length old → slice_index_or new n None ≡ first_of (slice_index_or old n None) (first_for n list)
