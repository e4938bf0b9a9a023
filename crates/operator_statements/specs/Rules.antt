-- The rule of an assignment operation, and what its places want (Go 1.17, "Assignments").
use Rattle.std.specs.Prelude.{ℕ, ◌==◌, ◌&&◌, Bool, true, false, if◌then◌else◌, List, Option, Some, None}
use Rattle.go_tree.specs.declared.tree.Node.{Node}
use Rattle.go_tree.specs.declared.tree.NodeKind.{NodeKind}
use Rattle.go_tree.specs.declared.tree.NodeKind.TheVariants as k
use Rattle.go_tree.specs.declared.tree.NodeRef.{NodeRef}
use Rattle.mark_walk.specs.Asks.{done}
use Rattle.typed_marks.specs.Meanings.{Free, Wrong}
use Rattle.unit_read.specs.declared.place.Place.{Place}
use Rattle.unit_read.specs.Units.{Unit, nodes_at}
use Rattle.rule_words.specs.declared.read.How.{How}
use Rattle.rule_words.specs.declared.read.How.TheVariants as h
use Rattle.rule_words.specs.Asking.{Rule}
use Rattle.rule_words.specs.Parts.{Part, part_at}
use Rattle.rule_words.specs.Words.{Wanted}
use Rattle.rule_words.specs.Files.{file_of}
use Rattle.rule_words.specs.Wishes.{nothing_wanted}
use Rattle.op_rules.specs.Binary.{binary_by}
use Rattle.op_rules.specs.Wants.{operator_asked}
use Rattle.variable_rules.specs.Forms.{name_count, value_count}
use Rattle.typed_tree.specs.declared.rule.TheConstants.{WRONG_NUMBER_OF_OPERANDS, BAD_SELECT_CASE}
use Rattle.assign_rules.specs.Selecting.{is_bad_case}
use Rattle.operator_statements.specs.Operators.{operator_of}

abbrev pub is_operation : NodeKind → Bool
is_operation k.OpAssign = true
is_operation _ = false

-- both operands, with the underlying types of their final types
abbrev pub operation_reads : NodeKind → ℕ → Option How
operation_reads kind slot = if is_operation kind then Some h.Value else None

-- "both the left- and right-hand expression lists must contain exactly one single-valued expression"
abbrev pub is_pair : List Node → Node → Bool
is_pair nodes node = name_count nodes node == 1 && value_count nodes 1 node == 1

-- E33, E34, E31 of `x op y`; of a shift E36, E37. What it gives has the type of x, a variable: it is assigned.
abbrev pub operated_rule : Unit → ℕ → Node → List Part → Rule
operated_rule u file node ps = binary_by (operator_of u file node) (part_at ps 0) (part_at ps 1) Free

abbrev pub paired_rule : Unit → NodeRef → Node → List Part → Rule
paired_rule u at node ps = if is_bad_case u at node then done (Wrong BAD_SELECT_CASE) else operated_rule u at.file node ps

-- The rule of an assignment operation: E73, E86, then those of the operator. E72 is the left operand's own.
abbrev pub operation_rule : Unit → ℕ → NodeRef → Node → List Part → Wanted → Rule
operation_rule u block at node ps w = if is_pair (nodes_at u at.file) node then paired_rule u at node ps else done (Wrong WRONG_NUMBER_OF_OPERANDS)

-- ---- places

-- the right operand is wanted as that of the operator, beside the left one
abbrev pub right_wants : Unit → ℕ → ℕ → Place → Node → Rule
right_wants u block file p around = operator_asked u block p around (operator_of u file around)

-- of several nothing is wanted
abbrev pub value_wants : Unit → ℕ → ℕ → Place → Node → Rule
value_wants u block file p around = if is_pair (nodes_at u file) around then right_wants u block file p around else nothing_wanted

-- What the places in an assignment operation want.
abbrev pub operation_wants : Unit → ℕ → Place → Node → Rule
operation_wants u block p around = if p.slot == 1 then value_wants u block (file_of u block) p around else nothing_wanted
