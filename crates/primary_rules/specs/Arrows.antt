-- To which channel types the arrow of a unary expression goes (Go 1.17, "Channel types": "The <- operator associates with the leftmost chan possible").
-- `<-chan<- chan T` is `<-chan (<-chan T)`: the first arrow goes to the first `chan`, whose own goes on to its element.
use Rattle.std.specs.Prelude.{ℕ, zero, suc, ◌&&◌, Bool, true, false, not, is_some, if◌then◌else◌, List, slice_get}
use Rattle.std.specs.Option.{option_map_or}
use Rattle.go_tree.specs.declared.tree.Node.{Node}
use Rattle.go_tree.specs.declared.tree.NodeKind.{NodeKind}
use Rattle.go_tree.specs.declared.tree.NodeKind.TheVariants as k
use Rattle.go_tree.specs.declared.tree.NodeRef.{NodeRef}
use Rattle.const_tree.specs.Operators.{unary_operator}
use Rattle.package_objects.specs.Declares.{part, kind_at}
use Rattle.unit_read.specs.declared.place.Place.{Place}
use Rattle.unit_read.specs.Units.{Unit, nodes_at, place_at}
use Rattle.op_rules.specs.Forms.{operator_in}
use Rattle.primary_rules.specs.Addresses.{passes}
use Rattle.rule_words.specs.Nodes.{deepest}

-- `chan T`
abbrev pub is_open : NodeKind → Bool
is_open k.ChanType = true
is_open _ = false

-- `chan<- T`
abbrev pub is_sending : NodeKind → Bool
is_sending k.SendChan = true
is_sending _ = false

-- ---- from the arrow inward

-- The arrow before a node has a `chan` to go to, and so has each that goes on. An element comes directly before its channel type.
abbrev pub takes_arrow : List Node → ℕ → Bool
takes_arrow nodes zero = passes is_open nodes zero
takes_arrow nodes (suc n) = if passes is_sending nodes (suc n) then takes_arrow nodes n else passes is_open nodes (suc n)

abbrev pub part_takes_arrow : List Node → Node → Bool
part_takes_arrow nodes node = option_map_or (takes_arrow nodes) (part node 0) false

-- ---- from a channel type outward

abbrev pub is_unary : NodeKind → Bool
is_unary k.Unary = true
is_unary _ = false

-- `<-` is no operator of constants
abbrev pub is_arrow : Unit → ℕ → Node → Bool
is_arrow u file node = is_unary node.kind && not (is_some (operator_in unary_operator u file node))

unfoldable pub is_arrow_at : Unit → ℕ → ℕ → Bool
is_arrow_at u file n = option_map_or (is_arrow u file) (slice_get (nodes_at u file) n) false

abbrev pub arrow_by : (ℕ → Bool) → Unit → ℕ → Place → Bool
arrow_by further u file p = if is_sending (kind_at (nodes_at u file) p.around) then further p.around else is_arrow_at u file p.around

-- an arrow comes to the node from what is around it, in so many steps at most
abbrev pub has_arrow : Unit → ℕ → ℕ → ℕ → Bool
has_arrow u file zero n = false
has_arrow u file (suc i) n = option_map_or (arrow_by (has_arrow u file i) u file) (place_at u (record { file = file; node = n })) false

abbrev pub may_have_arrow : NodeKind → Bool
may_have_arrow k.ChanType = true
may_have_arrow k.SendChan = true
may_have_arrow _ = false

-- An arrow comes to the channel type, which is receive-only then.
unfoldable pub is_receiving : Unit → NodeRef → Node → Bool
is_receiving u at node = may_have_arrow node.kind && has_arrow u at.file deepest at.node
