-- Kinds of nodes that the rules of bodies tell apart (Go 1.17, "Statements").
use Rattle.std.specs.Prelude.{Bool, true, false, ◌||◌}
use Rattle.go_tree.specs.declared.tree.NodeKind.{NodeKind}
use Rattle.go_tree.specs.declared.tree.NodeKind.TheVariants as k

-- fewer parts than these, a declaration or a literal has no results or no body
abbrev pub is_declaration : NodeKind → Bool
is_declaration k.FuncDecl = true
is_declaration _ = false

abbrev pub is_method : NodeKind → Bool
is_method k.MethodDecl = true
is_method _ = false

-- a `for`: a `continue` goes on with it
abbrev pub is_loop : NodeKind → Bool
is_loop k.For = true
is_loop k.ForClause = true
is_loop k.ForRange = true
is_loop k.ForRangeAssign = true
is_loop k.ForRangeDefine = true
is_loop _ = false

-- a `switch` or `select`
abbrev pub is_choice : NodeKind → Bool
is_choice k.Switch = true
is_choice k.TypeSwitch = true
is_choice k.Select = true
is_choice _ = false

-- what a `break` leaves
abbrev pub can_break : NodeKind → Bool
can_break kind = is_loop kind || is_choice kind

abbrev pub is_clause : NodeKind → Bool
is_clause k.Case = true
is_clause k.Default = true
is_clause k.TypeCase = true
is_clause k.Comm = true
is_clause _ = false

abbrev pub is_body : NodeKind → Bool
is_body k.Block = true
is_body _ = false

abbrev pub is_if : NodeKind → Bool
is_if k.If = true
is_if _ = false

-- The whole of an `if`, `for`, `switch` or `select` is a block, and so is each clause.
abbrev pub is_block : NodeKind → Bool
is_block kind = is_body kind || (is_if kind || (can_break kind || is_clause kind))

-- a statement that declares variables
abbrev pub declares : NodeKind → Bool
declares k.Var = true
declares k.VarGroup = true
declares k.Define = true
declares _ = false

abbrev pub is_default : NodeKind → Bool
is_default k.Default = true
is_default _ = false

abbrev pub is_condition : NodeKind → Bool
is_condition k.Condition = true
is_condition _ = false

abbrev pub is_params : NodeKind → Bool
is_params k.Params = true
is_params _ = false

abbrev pub is_label : NodeKind → Bool
is_label k.Label = true
is_label _ = false

abbrev pub is_list : NodeKind → Bool
is_list k.List = true
is_list _ = false

-- ---- statements that go elsewhere

abbrev pub is_goto : NodeKind → Bool
is_goto k.Goto = true
is_goto _ = false

abbrev pub is_break : NodeKind → Bool
is_break k.Break = true
is_break _ = false

abbrev pub is_continue : NodeKind → Bool
is_continue k.Continue = true
is_continue _ = false

-- a statement that may name a label
abbrev pub is_jump : NodeKind → Bool
is_jump kind = is_break kind || (is_continue kind || is_goto kind)

abbrev pub is_fall : NodeKind → Bool
is_fall k.Fallthrough = true
is_fall _ = false

abbrev pub is_return : NodeKind → Bool
is_return k.Return = true
is_return _ = false

-- ---- how statements end

abbrev pub is_call : NodeKind → Bool
is_call k.Call = true
is_call _ = false

-- parentheses
abbrev pub is_paren : NodeKind → Bool
is_paren k.Paren = true
is_paren _ = false

-- a `for` with a condition alone or with none
abbrev pub is_plain_for : NodeKind → Bool
is_plain_for k.For = true
is_plain_for _ = false

-- a `for` with three clauses
abbrev pub is_clause_for : NodeKind → Bool
is_clause_for k.ForClause = true
is_clause_for _ = false

-- an expression switch
abbrev pub is_switch : NodeKind → Bool
is_switch k.Switch = true
is_switch _ = false

abbrev pub is_type_switch : NodeKind → Bool
is_type_switch k.TypeSwitch = true
is_type_switch _ = false

abbrev pub is_select : NodeKind → Bool
is_select k.Select = true
is_select _ = false

-- ---- what assigns

-- an assignment of values to what stands left of `=` or `:=`
abbrev pub is_assigning : NodeKind → Bool
is_assigning k.Assign = true
is_assigning k.Define = true
is_assigning k.ForRangeAssign = true
is_assigning k.ForRangeDefine = true
is_assigning _ = false

-- a list of operands
abbrev pub is_several : NodeKind → Bool
is_several k.Exprs = true
is_several k.Names = true
is_several _ = false
