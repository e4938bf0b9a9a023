-- Methods put into lists, one for each type.
use Rattle.std.specs.Prelude.{◌≡◌, ℕ, ◌<◌, ◌++◌, ◌==◌, if◌then◌else◌, List, [], ◌∷◌, length, Option, slice_get, option_and_then}
use Rattle.std.specs.Option.{option_map_or}
use Rattle.std.specs.Global.{Vec}
use Rattle.go_tree.specs.declared.tree.NodeRef.{NodeRef}
use Rattle.object_order.specs.Views.{group_in}
use Rattle.package_objects.specs.Declares.{gather}
use Rattle.unit_read.specs.Methods.{is_first}
use Rattle.unit_read.specs.Subjects.{cell}

-- the number of the list of a type's methods
abbrev pub number_of : List (Vec (Option ℕ)) → Option NodeRef → Option ℕ
number_of kin o = option_and_then (cell kin) o

abbrev pub put_if : ℕ → Option ℕ → NodeRef → List NodeRef
put_if k number at = if is_first k number then at ∷ [] else []

-- the list of this number has one more, and the others have what they had
pub record PutsBy (number : Option ℕ) (at : NodeRef) (old new : List (Vec NodeRef)) : Type 0 where
  pub size : length new ≡ length old
  pub each : (k : ℕ) → k < length old → group_in new k ≡ group_in old k ++ put_if k number at

abbrev pub put_owned : List (Vec (Option ℕ)) → ℕ → NodeRef → Option NodeRef → List NodeRef
put_owned kin k at o = put_if k (number_of kin o) at

abbrev pub put_method : List (Vec (Option ℕ)) → List (Option NodeRef) → ℕ → ℕ → NodeRef → List NodeRef
put_method kin owners k i at = option_map_or (put_owned kin k at) (slice_get owners i) []

-- what the list of a number gets from the method at a place
abbrev pub nth_put : List (Vec (Option ℕ)) → List (Option NodeRef) → List NodeRef → ℕ → ℕ → List NodeRef
nth_put kin owners methods k i = option_map_or (put_method kin owners k i) (slice_get methods i) []

-- each list has what it gets from the methods at the first few places
pub record AreGroups (kin : List (Vec (Option ℕ))) (owners : List (Option NodeRef)) (methods : List NodeRef) (count : ℕ) (groups : List (Vec NodeRef)) : Type 0 where
  pub size : length groups ≡ length methods
  pub each : (k : ℕ) → k < length methods → group_in groups k ≡ gather (nth_put kin owners methods k) count
