-- The specifications of variables that have values, and the values that may stand for several names (Go 1.17, "Variable declarations": "If a list of expressions is
-- given, the variables are initialized with the expressions following the rules for assignments"; "Assignments").
use Rattle.std.specs.Prelude.{ℕ, zero, suc, ◌==◌, nat_le, ◌&&◌, Bool, true, false, not, if◌then◌else◌, codes, List, length, Option, Some, None, slice_get, option_and_then}
use Rattle.std.specs.Option.{option_map_or}
use Rattle.std.specs.Str.{bytes_eq}
use Rattle.go_tree.specs.declared.tree.Node.{Node}
use Rattle.go_tree.specs.declared.tree.NodeKind.{NodeKind}
use Rattle.go_tree.specs.declared.tree.NodeKind.TheVariants as k
use Rattle.package_objects.specs.Declares.{items, part}
use Rattle.unit_read.specs.Units.{Unit, first_spelled}
use Rattle.rule_words.specs.declared.read.How.{How}
use Rattle.rule_words.specs.Nodes.{deepest, is_paren}

-- in which slot the values stand: behind the names, or behind the names and the type
abbrev pub value_slot : NodeKind → Option ℕ
value_slot k.VarValues = Some 1
value_slot k.VarTypedValues = Some 2
value_slot _ = None

-- in which slot the type stands
abbrev pub type_slot : NodeKind → Option ℕ
type_slot k.VarTypedValues = Some 1
type_slot _ = None

-- The rule of a specification asks for its value itself.
abbrev pub variable_reads : NodeKind → ℕ → Option How
variable_reads _ slot = None

-- ---- how many

abbrev pub name_count : List Node → Node → ℕ
name_count nodes node = length (items nodes (part node 0))

abbrev pub value_count : List Node → ℕ → Node → ℕ
value_count nodes slot node = length (items nodes (part node slot))

-- one value beside two or more names
abbrev pub is_one_for_many : List Node → ℕ → Node → Bool
is_one_for_many nodes slot node = value_count nodes slot node == 1 && nat_le 2 (name_count nodes node)

-- ---- what may give several values

abbrev pub first_part : Node → ℕ → ℕ
first_part node n = option_map_or (λ (p : ℕ). p) (part node 0) n

abbrev pub inside : Node → ℕ → ℕ
inside node n = if is_paren node.kind then first_part node n else n

abbrev pub inside_at : List Node → ℕ → ℕ
inside_at nodes n = option_map_or (λ (node : Node). inside node n) (slice_get nodes n) n

-- what stands in parentheses, in so many at most
abbrev pub peeled : List Node → ℕ → ℕ → ℕ
peeled nodes zero n = n
peeled nodes (suc i) n = inside_at nodes (peeled nodes i n)

abbrev pub bare : List Node → ℕ → ℕ
bare nodes n = peeled nodes deepest n

-- "a call", and the three forms that give a value and whether there is one: an index of a map, a type assertion, a receive
abbrev pub may_give_several : Bool → NodeKind → Bool
may_give_several receives k.Call = true
may_give_several receives k.CallSpread = true
may_give_several receives k.Index = true
may_give_several receives k.Assert = true
may_give_several receives k.Unary = receives
may_give_several receives _ = false

abbrev pub is_receive : Unit → ℕ → Node → Bool
is_receive u file node = bytes_eq (first_spelled u file node) (codes "<-")

abbrev pub gives_several : Unit → ℕ → Node → Bool
gives_several u file node = may_give_several (is_receive u file node) node.kind

abbrev pub gives_several_at : Unit → ℕ → List Node → ℕ → Bool
gives_several_at u file nodes n = option_map_or (gives_several u file) (slice_get nodes (bare nodes n)) false

abbrev pub if_several : Unit → ℕ → List Node → ℕ → Option ℕ
if_several u file nodes n = if gives_several_at u file nodes n then Some n else None

-- the value, where it is one that may stand for all names
abbrev pub shared_value : Unit → ℕ → List Node → ℕ → Node → Option ℕ
shared_value u file nodes slot node =
    if is_one_for_many nodes slot node then option_and_then (if_several u file nodes) (slice_get (items nodes (part node slot)) 0) else None
