-- What the places in a specification of variables with values want (Go 1.17, "Variable declarations": "If a type is present, each variable is given that type.
-- Otherwise, each variable is given the type of the corresponding initialization value in the assignment").
use Rattle.std.specs.Prelude.{ℕ, ◌==◌, is_some, if◌then◌else◌, Bool, false, Option, option_and_then}
use Rattle.std.specs.Option.{option_map_or}
use Rattle.go_tree.specs.declared.tree.Node.{Node}
use Rattle.go_tree.specs.declared.tree.NodeKind.{NodeKind}
use Rattle.package_objects.specs.Declares.{part}
use Rattle.mark_walk.specs.Asks.{done, bind}
use Rattle.typed_tree.specs.Places.{is_type}
use Rattle.typed_tree.specs.declared.place.Want.{Want as Demand}
use Rattle.typed_tree.specs.declared.place.Want.TheVariants as demand
use Rattle.typed_marks.specs.declared.item.Stage.TheVariants as s
use Rattle.typed_marks.specs.Meanings.{Known, Wish, Free, Assigned, Meaning, Wishes}
use Rattle.unit_read.specs.declared.place.Place.{Place}
use Rattle.unit_read.specs.Units.{Unit, nodes_at}
use Rattle.rule_words.specs.Asking.{Rule, mark_ask}
use Rattle.rule_words.specs.Good.{known_told}
use Rattle.rule_words.specs.Files.{file_of}
use Rattle.variable_rules.specs.Forms.{value_slot, type_slot, shared_value}

-- One value that may stand for several names is looked at by the specification; another is a single one.
abbrev pub value_demand : Option ℕ → Demand
value_demand shared = if is_some shared then demand.Nothing else demand.Operand

abbrev pub demand_in : Unit → ℕ → ℕ → Node → Demand
demand_in u block slot around = value_demand (shared_value u (file_of u block) (nodes_at u (file_of u block)) slot around)

-- each value is assigned to the type that is written, whether or not a name stands beside it
abbrev pub type_wish : Known → Wish
type_wish x = if is_type x.mode then Assigned x.of else Free

abbrev pub wish_told : Meaning → Wish
wish_told m = option_map_or type_wish (known_told m) Free

abbrev pub typed_told : Demand → Meaning → Rule
typed_told demand m = done (Wishes demand (wish_told m))

abbrev pub typed_want : Unit → ℕ → Demand → ℕ → Rule
typed_want u block demand t = bind (mark_ask u s.Placed block t) (typed_told demand)

abbrev pub type_of : Node → Option ℕ
type_of around = option_and_then (part around) (type_slot around.kind)

-- with the type, if one is written
abbrev pub value_want : Unit → ℕ → Node → Demand → Rule
value_want u block around demand =
    option_map_or (typed_want u block demand) (type_of around) (done (Wishes demand Free))

-- a type where one is written; nothing of a name
abbrev pub is_at : ℕ → Option ℕ → Bool
is_at slot o = option_map_or (λ i. slot == i) o false

abbrev pub other_demand : NodeKind → ℕ → Demand
other_demand kind slot = if is_at slot (type_slot kind) then demand.Type else demand.Nothing

abbrev pub slot_want : Unit → ℕ → Node → ℕ → Rule
slot_want u block around slot = value_want u block around (demand_in u block slot around)

abbrev pub want_by : Unit → ℕ → Place → Node → ℕ → Rule
want_by u block p around slot =
    if p.slot == slot then slot_want u block around slot else done (Wishes (other_demand around.kind p.slot) Free)

-- What the node around wants of what stands at a place in it.
abbrev pub variable_wants : Unit → ℕ → Place → Node → Rule
variable_wants u block p around = option_map_or (want_by u block p around) (value_slot around.kind) (done (Wishes demand.Nothing Free))
