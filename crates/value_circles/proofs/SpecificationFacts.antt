-- Examples of the specification (Go 1.17, "Package initialization"), by the definitions of this crate.
use Rattle.std.proofs.Common.{◌≡◌, ℕ, List, [], ◌∷◌, Option, Some, None, slice_get, refl, inl, inr}
use Rattle.std.specs.Option.{option_map_or}
use Rattle.go_tree.specs.declared.tree.FileTree.{FileTree}
use Rattle.go_tree.specs.declared.tree.Node.{Node}
use Rattle.go_tree.specs.declared.tree.NodeKind.{NodeKind}
use Rattle.go_tree.specs.declared.tree.NodeKind.TheVariants as k
use Rattle.go_tree.specs.declared.tree.NodeRef.{NodeRef}
use Rattle.object_order.specs.declared.spot.Entry.{Entry}
use Rattle.object_order.specs.declared.spot.Form.TheVariants as form
use Rattle.object_order.specs.declared.spot.Role.TheVariants as role
use Rattle.object_order.specs.Cases.{itself}
use Rattle.object_order.specs.Paths.{Leads}
use Rattle.object_order.specs.Spots.{World, place}
use Rattle.value_circles.specs.Circles.{first_named, RefersTo}
use Rattle.value_circles.specs.Values.{value_entries}

abbrev node : NodeKind → List ℕ → Node
node kind parts = record { kind = kind; first = 0; last = 0; parts = parts }

-- var a = b
-- var b T = a
-- var c, d = b
abbrev nodes : List Node
nodes =
    node k.Name [] ∷ node k.Name [] ∷ node k.VarValues (0 ∷ 1 ∷ []) ∷ node k.Var (2 ∷ [])
    ∷ node k.Name [] ∷ node k.Name [] ∷ node k.Name [] ∷ node k.VarTypedValues (4 ∷ 5 ∷ 6 ∷ []) ∷ node k.Var (7 ∷ [])
    ∷ node k.Name [] ∷ node k.Name [] ∷ node k.Names (9 ∷ 10 ∷ []) ∷ node k.Name [] ∷ node k.VarValues (11 ∷ 12 ∷ []) ∷ node k.Var (13 ∷ [])
    ∷ []

abbrev tree : FileTree
tree = record { tokens = []; nodes = nodes; tops = 3 ∷ 8 ∷ 14 ∷ [] }

abbrev with_value : ℕ → ℕ → Entry
with_value name value = record { name = place 0 name; form = form.Other; roots = record { role = role.Resting; node = value } ∷ [] }

the_type_is_no_value_and_one_value_is_of_both_names : value_entries (tree ∷ []) ≡ with_value 0 1 ∷ with_value 4 6 ∷ with_value 9 12 ∷ with_value 10 12 ∷ []
the_type_is_no_value_and_one_value_is_of_both_names = refl

-- "var a = b", "var b = a": each depends on the other, and so on itself
abbrev meant : NodeRef → Option NodeRef
meant at = option_map_or (λ (o : Option NodeRef). o)
    (slice_get (None ∷ Some (place 0 4) ∷ None ∷ None ∷ None ∷ None ∷ Some (place 0 0) ∷ None ∷ None ∷ None ∷ None ∷ None ∷ Some (place 0 4) ∷ []) at.node) None

abbrev world : World
world = record { node = λ at. slice_get nodes at.node; meant = meant; entry = λ at. first_named at (value_entries (tree ∷ [])); kin = λ t. [] }

a_refers_to_b : RefersTo world (place 0 0) (place 0 4)
a_refers_to_b = (
  role.Resting,
  place 0 1,
  record { entry = with_value 0 1; declared = refl; root = record { role = role.Resting; node = 1 }; among = inl refl; role_is = refl; at_is = refl },
  (place 0 1, itself refl, record { entry = with_value 4 6; meant = refl; declared = refl }),
)

b_refers_to_a : RefersTo world (place 0 4) (place 0 0)
b_refers_to_a = (
  role.Resting,
  place 0 6,
  record { entry = with_value 4 6; declared = refl; root = record { role = role.Resting; node = 6 }; among = inl refl; role_is = refl; at_is = refl },
  (place 0 6, itself refl, record { entry = with_value 0 1; meant = refl; declared = refl }),
)

a_reaches_itself : Leads (RefersTo world) (place 0 0) (place 0 0)
a_reaches_itself = (place 0 4 ∷ [], (a_refers_to_b, b_refers_to_a))
