-- The methods of a type (Go 1.17, "Method declarations"). The only parameter of the receiver is of a type T or a pointer to it, where T is a
-- defined type of the package and neither a pointer nor an interface type. Aliases are followed, since they denote the same type.
use Rattle.std.specs.Prelude.{◌≡◌, ◌↔◌, ◌⊎◌, ◌==◌, Bool, true, false, if◌then◌else◌, List, length, Option, Some, None, option_and_then}
use Rattle.std.specs.Option.{option_map_or}
use Rattle.go_tree.specs.Spells.{Among}
use Rattle.go_tree.specs.declared.tree.Node.{Node}
use Rattle.go_tree.specs.declared.tree.NodeKind.{NodeKind}
use Rattle.go_tree.specs.declared.tree.NodeKind.TheVariants as k
use Rattle.go_tree.specs.declared.tree.NodeRef.{NodeRef}
use Rattle.object_order.specs.declared.spot.Entry.{Entry}
use Rattle.object_order.specs.declared.spot.Form.{Form}
use Rattle.object_order.specs.declared.spot.Form.TheVariants as form
use Rattle.object_order.specs.Spots.{World}
use Rattle.package_needs.specs.declared.kin.Method.{Method}
use Rattle.package_needs.specs.Follow.{kind_at, part_in, Ends}

abbrev pub is_star : NodeKind → Bool
is_star k.Star = true
is_star _ = false

abbrev pub is_names : NodeKind → Bool
is_names k.Names = true
is_names _ = false

abbrev pub is_method : NodeKind → Bool
is_method k.MethodDecl = true
is_method _ = false

-- a type of this kind has methods of its own
abbrev pub has_methods : NodeKind → Bool
has_methods k.Star = false
has_methods k.InterfaceType = false
has_methods _ = true

abbrev pub is_defined : Form → Bool
is_defined form.Defined = true
is_defined _ = false

-- ---- receivers

-- the type of a parameter with one name
abbrev pub type_of_one : World → NodeRef → NodeRef → Option NodeRef
type_of_one w at name = if is_names (kind_at w name) then None else part_in w 1 at

-- the type of a parameter that stands for one: with one name, or with none
abbrev pub type_by : World → NodeKind → NodeRef → Option NodeRef
type_by w k.Param at = option_and_then (type_of_one w at) (part_in w 0 at)
type_by w k.SpreadParam at = None
type_by w _ at = Some at

-- the type of the only parameter of a list
abbrev pub only_type : World → NodeRef → Option NodeRef
only_type w list = if option_map_or (λ (node : Node). length node.parts == 1) (w.node list) false then option_and_then (λ at. type_by w (kind_at w at) at) (part_in w 0 list) else None

-- the defined type that a node denotes
abbrev pub defined : World → NodeRef → Option NodeRef
defined w at = option_and_then (λ u. option_and_then (λ (e : Entry). if is_defined e.form then Some u else None) (w.entry u)) (w.meant at)

-- the node denotes a defined type that is neither a pointer nor an interface type
pub record IsBase (w : World) (at t : NodeRef) : Type 0 where
  pub denotes : defined w at ≡ Some t
  pub plain : (e : NodeRef) → Ends w true at e → has_methods (kind_at w e) ≡ true

-- the type is a pointer to one that ends there
pub record PointsTo (w : World) (at e : NodeRef) : Type 0 where
  pub part : NodeRef
  pub pointer : is_star (kind_at w at) ≡ true
  pub has : part_in w 0 at ≡ Some part
  pub ends : Ends w false part e

-- the type that ends there is the defined type or a pointer to it
abbrev pub IsOf : World → NodeRef → NodeRef → Type 0
IsOf w e t = ((is_star (kind_at w e) ≡ false) × IsBase w e t) ⊎ ((f : NodeRef) × PointsTo w e f × IsBase w f t)

-- the type is the defined type or a pointer to it
abbrev pub IsReceiver : World → NodeRef → NodeRef → Type 0
IsReceiver w at t = (e : NodeRef) × Ends w false at e × IsOf w e t

-- the node declares the method of the type
pub record IsMethod (w : World) (at t m : NodeRef) : Type 0 where
  pub list : NodeRef
  pub receiver : NodeRef
  pub «is» : is_method (kind_at w at) ≡ true
  pub name : part_in w 1 at ≡ Some m
  pub has : part_in w 0 at ≡ Some list
  pub only : only_type w list ≡ Some receiver
  pub base : IsReceiver w receiver t

-- each method of the type, and nothing else
abbrev pub AreMethods : World → (NodeRef → List NodeRef) → Type 0
AreMethods w kin = (t m : NodeRef) → Among m (kin t) ↔ ((at : NodeRef) × IsMethod w at t m)

-- what is said of the method that a node declares
abbrev pub IsMethodAt : World → NodeRef → Option Method → Type 0
IsMethodAt w at o = (t m : NodeRef) → (o ≡ Some (record { of = t; name = m })) ↔ IsMethod w at t m

-- the type of which a node declares a method, if it declares one
abbrev pub IsOwnerAt : World → NodeRef → Option NodeRef → Type 0
IsOwnerAt w at o = (t : NodeRef) → (o ≡ Some t) ↔ ((m : NodeRef) × IsMethod w at t m)

abbrev pub IsBaseOf : World → NodeRef → Option NodeRef → Type 0
IsBaseOf w at o = (t : NodeRef) → (o ≡ Some t) ↔ IsBase w at t

abbrev pub IsReceiverOf : World → NodeRef → Option NodeRef → Type 0
IsReceiverOf w at o = (t : NodeRef) → (o ≡ Some t) ↔ IsReceiver w at t

-- what a pointer points to
abbrev pub IsTarget : World → NodeRef → Option NodeRef → Type 0
IsTarget w at o = (e : NodeRef) → (o ≡ Some e) ↔ PointsTo w at e

abbrev pub IsBaseBy : World → NodeRef → Option NodeRef → Type 0
IsBaseBy w e o = (t : NodeRef) → (o ≡ Some t) ↔ IsOf w e t

abbrev pub method : Option NodeRef → Option NodeRef → Option Method
method name of = option_and_then (λ (m : NodeRef). option_and_then (λ (t : NodeRef). Some (record { of = t; name = m })) of) name
