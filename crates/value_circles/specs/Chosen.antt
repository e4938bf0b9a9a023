-- The names that are chosen of an order, in code.
use Rattle.std.specs.Prelude.{ℕ, Bool, false, if◌then◌else◌, is_some, List, [], ◌∷◌}
use Rattle.std.specs.Global.{Vec}
use Rattle.std.specs.HashMap.{HashMap}
use Rattle.go_tree.specs.declared.tree.NodeRef.{NodeRef}
use Rattle.object_order.specs.declared.needed.Needed.{Needed}
use Rattle.object_order.specs.Views.{number_in}
use Rattle.value_circles.specs.Circles.{flag}

-- the name leads back to itself, isn't refused before, and is one of the variables
abbrev pub is_chosen : {S : Type 0} → HashMap (ℕ × ℕ) ℕ S → List (Vec Bool) → Needed → Bool
is_chosen variables cyclic e = if e.cyclic then (if flag cyclic e.object then false else is_some (number_in variables (e.object.file, e.object.node))) else false

abbrev pub if_chosen : {S : Type 0} → HashMap (ℕ × ℕ) ℕ S → List (Vec Bool) → Needed → List NodeRef
if_chosen variables cyclic e = if is_chosen variables cyclic e then e.object ∷ [] else []
