-- What a node is for control (Go 1.17, "Statements"). What stands in no line here is a simple statement or no statement.
use Rattle.std.specs.Prelude.{ℕ, Bool, true, false, ◌||◌, List, drop}
use Rattle.go_tree.specs.declared.tree.NodeKind.{NodeKind}
use Rattle.go_tree.specs.declared.tree.NodeKind.TheVariants as k
use Rattle.flow.specs.declared.point.Role.{Role}
use Rattle.flow.specs.declared.point.Role.TheVariants as r

-- statements in turn
abbrev pub is_sequence : NodeKind → Bool
is_sequence k.Block = true
is_sequence k.List = true
is_sequence k.Label = true
is_sequence k.Case = true
is_sequence k.Default = true
is_sequence k.TypeCase = true
is_sequence k.Comm = true
is_sequence k.Post = true
is_sequence _ = false

-- one of several arms
abbrev pub is_branching : NodeKind → Bool
is_branching k.If = true
is_branching k.Switch = true
is_branching k.TypeSwitch = true
is_branching k.Select = true
is_branching _ = false

abbrev pub is_loop : NodeKind → Bool
is_loop k.For = true
is_loop k.ForClause = true
is_loop k.ForRange = true
is_loop k.ForRangeAssign = true
is_loop k.ForRangeDefine = true
is_loop _ = false

-- control doesn't pass these
abbrev pub is_ending : NodeKind → Bool
is_ending k.Return = true
is_ending k.Break = true
is_ending k.Continue = true
is_ending k.Goto = true
is_ending k.Fallthrough = true
is_ending _ = false

abbrev pub is_list : NodeKind → Bool
is_list k.List = true
is_list _ = false

abbrev pub is_block : NodeKind → Bool
is_block k.Block = true
is_block _ = false

abbrev pub is_post : NodeKind → Bool
is_post k.Post = true
is_post _ = false

abbrev pub is_default : NodeKind → Bool
is_default k.Default = true
is_default _ = false

abbrev pub is_condition : NodeKind → Bool
is_condition k.Condition = true
is_condition _ = false

-- branches and clauses
abbrev pub is_arm : NodeKind → Bool
is_arm k.Block = true
is_arm k.If = true
is_arm k.Case = true
is_arm k.Default = true
is_arm k.TypeCase = true
is_arm k.Comm = true
is_arm _ = false

-- no part of a header
abbrev pub is_inner : NodeKind → Bool
is_inner of = is_arm of || (is_condition of || is_post of)

-- `switch` and `select`: a `break` leaves them, a `continue` doesn't speak of them
abbrev pub is_left : NodeKind → Bool
is_left k.Switch = true
is_left k.TypeSwitch = true
is_left k.Select = true
is_left _ = false

abbrev pub is_switch : NodeKind → Bool
is_switch k.Switch = true
is_switch _ = false

-- which parts of a sequence are its steps: of a clause of a `switch` its list, and of another sequence all
abbrev pub step_role : NodeKind → Role
step_role k.Case = r.List
step_role k.Default = r.List
step_role k.TypeCase = r.List
step_role _ = r.Any

-- the parts of a sequence, without a label's name
abbrev pub steps_of : NodeKind → List ℕ → List ℕ
steps_of k.Label parts = drop 1 parts
steps_of _ parts = parts
