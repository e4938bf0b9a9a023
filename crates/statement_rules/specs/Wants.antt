-- What the places in statements want (Go 1.17, "Statements").
use Rattle.std.specs.Prelude.{ℕ, ◌==◌, Bool, false, if◌then◌else◌, List, slice_get}
use Rattle.std.specs.Option.{option_map_or}
use Rattle.go_tree.specs.declared.tree.Node.{Node}
use Rattle.go_tree.specs.declared.tree.NodeKind.{NodeKind}
use Rattle.go_tree.specs.declared.tree.NodeKind.TheVariants as k
use Rattle.package_objects.specs.Declares.{items, part}
use Rattle.unit_read.specs.declared.place.Place.{Place}
use Rattle.unit_read.specs.Units.{Unit, nodes_at}
use Rattle.rule_words.specs.Asking.{Rule}
use Rattle.rule_words.specs.Files.{file_of}
use Rattle.rule_words.specs.Wishes.{free_operand, nothing_wanted}
use Rattle.assign_rules.specs.Assigning.{assign_wants}
use Rattle.assign_rules.specs.Kinds.{condition_of, tag_slot}
use Rattle.assign_rules.specs.Ranging.{range_wants}
use Rattle.statement_rules.specs.Returning.{return_wants}
use Rattle.assign_rules.specs.Sending.{send_wants}
use Rattle.statement_rules.specs.Switching.{case_wants}
use Rattle.statement_rules.specs.TypeSwitching.{type_wants}

abbrev pub if_it : Bool → Rule
if_it b = if b then free_operand else nothing_wanted

-- what stands in the slot is this node
abbrev pub is_part : ℕ → Node → ℕ → Bool
is_part n around slot = option_map_or (λ m. m == n) (part around slot) false

abbrev pub is_condition_at : List Node → Node → ℕ → Bool
is_condition_at nodes around slot = option_map_or (λ n. is_part n around slot) (condition_of around.kind nodes around) false

-- a condition is a single value; that of a for clause stands in a node of its own
abbrev pub condition_wants : List Node → Node → ℕ → Rule
condition_wants nodes around slot = if_it (is_condition_at nodes around slot)

abbrev pub is_tag_at : Unit → ℕ → Node → ℕ → Bool
is_tag_at u file around slot = option_map_or (λ i. slot == i) (tag_slot u file (nodes_at u file) around) false

abbrev pub value_in_clause : Unit → ℕ → ℕ → Place → Node → Rule
value_in_clause u block file p around = option_map_or (case_wants u block file p.around) (slice_get (items (nodes_at u file) (part around 0)) p.index) nothing_wanted

abbrev pub clause_wants : Unit → ℕ → ℕ → Place → Node → Rule
clause_wants u block file p around = if p.slot == 0 then value_in_clause u block file p around else nothing_wanted

abbrev pub type_clause_wants : Unit → ℕ → Place → Node → Rule
type_clause_wants u file p around = if p.slot == 0 then type_wants (nodes_at u file) around 0 else nothing_wanted

abbrev pub wants_by : Unit → ℕ → ℕ → Place → Node → NodeKind → Rule
wants_by u block file p around k.Assign = assign_wants u block file p around
wants_by u block file p around k.Define = assign_wants u block file p around
wants_by u block file p around k.Send = send_wants u block p around
wants_by u block file p around k.Return = return_wants u block file p around
wants_by u block file p around k.If = condition_wants (nodes_at u file) around p.slot
wants_by u block file p around k.For = condition_wants (nodes_at u file) around p.slot
wants_by u block file p around k.Condition = free_operand
wants_by u block file p around k.TypeGuard = free_operand
wants_by u block file p around k.Switch = if_it (is_tag_at u file around p.slot)
wants_by u block file p around k.ForRange = range_wants p around
wants_by u block file p around k.ForRangeAssign = range_wants p around
wants_by u block file p around k.ForRangeDefine = range_wants p around
wants_by u block file p around k.Case = clause_wants u block file p around
wants_by u block file p around k.TypeCase = type_clause_wants u file p around
wants_by u block file p around k.TypeList = type_wants (nodes_at u file) around p.slot
wants_by u block file p around _ = nothing_wanted

abbrev pub wants_in : Unit → ℕ → Place → Node → ℕ → Rule
wants_in u block p around file = wants_by u block file p around around.kind

-- What the statement around wants of what stands at a place in it. Places that make more of it are told apart by `Placing`.
abbrev pub statement_wants : Unit → ℕ → Place → Node → Rule
statement_wants u block p around = wants_in u block p around (file_of u block)
