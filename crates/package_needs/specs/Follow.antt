-- Where the names of types lead (Go 1.17, "Type declarations": an alias denotes its type, and a defined type has the underlying type of the
-- type that its declaration gives).
use Rattle.std.specs.Prelude.{◌≡◌, ◌↔◌, ℕ, ltb, Bool, true, false, if◌then◌else◌, Option, Some, None, slice_get, option_map, option_and_then}
use Rattle.std.specs.Option.{option_map_or}
use Rattle.go_tree.specs.declared.tree.Node.{Node}
use Rattle.go_tree.specs.declared.tree.NodeKind.{NodeKind}
use Rattle.go_tree.specs.declared.tree.NodeKind.TheVariants as k
use Rattle.go_tree.specs.declared.tree.NodeRef.{NodeRef}
use Rattle.object_order.specs.declared.spot.Entry.{Entry}
use Rattle.object_order.specs.declared.spot.Root.{Root}
use Rattle.object_order.specs.declared.spot.Form.{Form}
use Rattle.object_order.specs.declared.spot.Form.TheVariants as form
use Rattle.object_order.specs.Spots.{World, place, is_paren}

-- the kind of a node; that of a package clause, where there is no such node
abbrev pub kind_at : World → NodeRef → NodeKind
kind_at w at = option_map_or (λ (node : Node). node.kind) (w.node at) k.Package

-- the part at a place of a node
abbrev pub part_in : World → ℕ → NodeRef → Option NodeRef
part_in w i at = option_and_then (λ (node : Node). option_map (λ n. place at.file n) (slice_get node.parts i)) (w.node at)

-- a part that comes before its node
abbrev pub if_before : NodeRef → NodeRef → Option NodeRef
if_before at part = if ltb part.node at.node then Some part else None

-- what stands in parentheses
abbrev pub inside : World → NodeRef → Option NodeRef
inside w at = option_and_then (if_before at) (part_in w 0 at)

-- through aliases alone, or through all types of the package
abbrev pub goes_through : Bool → Form → Bool
goes_through far form.Alias = true
goes_through far form.Defined = far
goes_through far form.Other = false

-- the type that a type's declaration gives
abbrev pub given : Bool → Entry → Option NodeRef
given far e = if goes_through far e.form then option_map (λ (r : Root). place e.name.file r.node) (slice_get e.roots 0) else None

-- where a name of a type goes on
abbrev pub by_name : World → Bool → NodeRef → Option NodeRef
by_name w far at = option_and_then (λ u. option_and_then (given far) (w.entry u)) (w.meant at)

-- what stands in parentheses, where the type does
abbrev pub unwraps : World → NodeRef → Option NodeRef
unwraps w at = if is_paren (kind_at w at) then inside w at else None

-- the type without the parentheses round it
pub data Peels (w : World) : NodeRef → NodeRef → Type 0 where
  bare : {at b : NodeRef} → unwraps w at ≡ None → at ≡ b → Peels w at b
  in_parens : {at part b : NodeRef} → unwraps w at ≡ Some part → Peels w part b → Peels w at b

-- where a type goes on: in its parentheses, or in the declaration that it names
abbrev pub next : World → Bool → NodeRef → Option NodeRef
next w far at = if is_paren (kind_at w at) then inside w at else by_name w far at

-- Parentheses and names lead from the type to this one, which is neither; where they go round in a circle they lead to none.
pub data Ends (w : World) (far : Bool) : NodeRef → NodeRef → Type 0 where
  there : {at e : NodeRef} → next w far at ≡ None → at ≡ e → Ends w far at e
  on : {at to e : NodeRef} → next w far at ≡ Some to → Ends w far to e → Ends w far at e

-- what is said of where a type ends
abbrev pub IsEnd : World → Bool → NodeRef → Option NodeRef → Type 0
IsEnd w far at o = (e : NodeRef) → (o ≡ Some e) ↔ Ends w far at e
