-- Places in statements that make more of what stands there than what is wanted of it (Go 1.17, "Statements").
use Rattle.std.specs.Prelude.{ℕ, ◌==◌, ◌&&◌, Bool, false, not, if◌then◌else◌, is_some, List}
use Rattle.std.specs.Option.{option_map_or}
use Rattle.go_tree.specs.declared.tree.Node.{Node}
use Rattle.go_tree.specs.declared.tree.NodeKind.{NodeKind}
use Rattle.go_tree.specs.declared.tree.NodeKind.TheVariants as k
use Rattle.mark_walk.specs.Asks.{done}
use Rattle.typed_marks.specs.Meanings.{Meaning, Quiet}
use Rattle.unit_read.specs.declared.place.Place.{Place}
use Rattle.unit_read.specs.Units.{Unit, nodes_at}
use Rattle.rule_words.specs.Asking.{Rule}
use Rattle.variable_rules.specs.Forms.{shared_value}
use Rattle.statement_rules.specs.declared.placing.Placing.{Placing}
use Rattle.statement_rules.specs.declared.placing.Placing.TheVariants as p
use Rattle.assign_rules.specs.Around.{function_of}
use Rattle.assign_rules.specs.Assigning.{is_used, target_rule}
use Rattle.assign_rules.specs.Kinds.{is_statement, is_type_list, takes_statement}
use Rattle.assign_rules.specs.Ranging.{operand_rule}
use Rattle.statement_rules.specs.Returning.{returned_call, passed_rule}
use Rattle.assign_rules.specs.Sharing.{several_rule}
use Rattle.statement_rules.specs.Standing.{standing_rule, communicating_rule}
use Rattle.statement_rules.specs.Switching.{case_rule}
use Rattle.statement_rules.specs.TypeSwitching.{case_type_rule}

-- ---- which places

abbrev pub if_first : ℕ → Placing → Placing
if_first slot placing = if slot == 0 then placing else p.Plain

-- the only value of several operands
abbrev pub value_placing : Unit → ℕ → Node → Placing
value_placing u file around = if is_some (shared_value u file (nodes_at u file) 1 around) then p.Several else p.Plain

abbrev pub assigned_placing : Unit → ℕ → Node → ℕ → Placing
assigned_placing u file around slot = if slot == 0 then p.Target else value_placing u file around

-- a name that its block has already is assigned
abbrev pub name_placing : Unit → ℕ → ℕ → Placing
name_placing u file n = if is_used u file n then p.Target else p.Plain

abbrev pub defined_placing : Unit → ℕ → Node → ℕ → ℕ → Placing
defined_placing u file around slot n = if slot == 0 then name_placing u file n else value_placing u file around

abbrev pub range_placing : ℕ → Placing
range_placing slot = if slot == 0 then p.Target else (if slot == 1 then p.Ranged else p.Plain)

abbrev pub call_placing : List Node → Node → ℕ → Placing
call_placing nodes around f = if is_some (returned_call nodes around f) then p.Passed else p.Plain

abbrev pub return_placing : Unit → ℕ → ℕ → Node → Placing
return_placing u file whole around = option_map_or (call_placing (nodes_at u file) around) (function_of u file whole) p.Plain

abbrev pub type_placing : ℕ → NodeKind → Placing
type_placing slot kind = if slot == 0 && not (is_type_list kind) then p.Type else p.Plain

abbrev pub comm_placing : ℕ → NodeKind → Placing
comm_placing slot kind = if slot == 0 && not (is_statement kind) then p.Communicating else p.Plain

abbrev pub other_placing : Unit → ℕ → Node → ℕ → NodeKind → Placing
other_placing u file around slot kind =
    if takes_statement u file (nodes_at u file) around.kind around slot && not (is_statement kind) then p.Standing else p.Plain

-- The placing of a node of a number and kind, in a file, at a place in a node of a kind.
abbrev pub placing_by : Unit → ℕ → Place → Node → ℕ → NodeKind → NodeKind → Placing
placing_by u file at around n own k.Assign = assigned_placing u file around at.slot
placing_by u file at around n own k.Define = defined_placing u file around at.slot n
placing_by u file at around n own k.OpAssign = if_first at.slot p.Target
placing_by u file at around n own k.Increment = p.Target
placing_by u file at around n own k.Decrement = p.Target
placing_by u file at around n own k.ForRangeAssign = range_placing at.slot
placing_by u file at around n own k.Return = return_placing u file at.around around
placing_by u file at around n own k.Case = if_first at.slot p.Value
placing_by u file at around n own k.TypeCase = type_placing at.slot own
placing_by u file at around n own k.TypeList = p.Type
placing_by u file at around n own k.Comm = comm_placing at.slot own
placing_by u file at around n own _ = other_placing u file around at.slot own

abbrev pub placing_of : Unit → ℕ → Place → Node → ℕ → NodeKind → Placing
placing_of u file at around n kind = placing_by u file at around n kind around.kind

-- ---- what they make of the node's own mark

-- Where the placing is plain, what is wanted says what is tested.
abbrev pub placed_by : Unit → ℕ → ℕ → Place → Node → ℕ → Meaning → Placing → Rule
placed_by u block file at around n m p.Plain = done Quiet
placed_by u block file at around n m p.Standing = standing_rule u block file n m
placed_by u block file at around n m p.Communicating = communicating_rule u file n m
placed_by u block file at around n m p.Target = target_rule u file n m
placed_by u block file at around n m p.Several = several_rule u block file (nodes_at u file) around m
placed_by u block file at around n m p.Passed = passed_rule u block file at.around m
placed_by u block file at around n m p.Value = case_rule u block file at.around m
placed_by u block file at around n m p.Type = case_type_rule u block file at.around m
placed_by u block file at around n m p.Ranged = operand_rule u block file (nodes_at u file) around m

-- ---- blanks: "the blank identifier may be used like any other identifier" on the left of an assignment, and is no use

abbrev pub takes_blank : NodeKind → ℕ → Bool
takes_blank k.Assign slot = slot == 0
takes_blank k.ForRangeAssign slot = slot == 0
takes_blank _ slot = false
