-- Statements by kind, and which of their parts are what (Go 1.17, "Statements").
use Rattle.std.specs.Prelude.{ℕ, suc, ◌==◌, ◌&&◌, ◌||◌, Bool, true, false, not, if◌then◌else◌, List, Option, Some, None, option_and_then, slice_get}
use Rattle.std.specs.Option.{option_map_or}
use Rattle.go_tree.specs.declared.token.Token.{Token}
use Rattle.go_tree.specs.declared.token.TokenKind.{TokenKind}
use Rattle.go_tree.specs.declared.token.TokenKind.TheVariants as t
use Rattle.go_tree.specs.declared.tree.Node.{Node}
use Rattle.go_tree.specs.declared.tree.NodeKind.{NodeKind}
use Rattle.go_tree.specs.declared.tree.NodeKind.TheVariants as k
use Rattle.package_objects.specs.Declares.{part, kind_at, is_block}
use Rattle.unit_read.specs.Units.{Unit, token_at}

-- the kind of a part; a part that isn't there has that of a package clause
abbrev pub part_kind : List Node → Node → ℕ → NodeKind
part_kind nodes node i = option_map_or (kind_at nodes) (part node i) k.Package

-- ---- kinds

-- a statement, or what stands for statements in another: whatever else stands in the place of a statement is an expression
abbrev pub is_statement : NodeKind → Bool
is_statement k.Block = true
is_statement k.List = true
is_statement k.Go = true
is_statement k.Defer = true
is_statement k.Return = true
is_statement k.Break = true
is_statement k.Continue = true
is_statement k.Goto = true
is_statement k.Fallthrough = true
is_statement k.Assign = true
is_statement k.OpAssign = true
is_statement k.Send = true
is_statement k.Increment = true
is_statement k.Decrement = true
is_statement k.Define = true
is_statement k.Label = true
is_statement k.If = true
is_statement k.Switch = true
is_statement k.TypeSwitch = true
is_statement k.Select = true
is_statement k.For = true
is_statement k.ForClause = true
is_statement k.ForRange = true
is_statement k.ForRangeAssign = true
is_statement k.ForRangeDefine = true
is_statement k.Const = true
is_statement k.ConstGroup = true
is_statement k.TypeDecl = true
is_statement k.TypeGroup = true
is_statement k.Var = true
is_statement k.VarGroup = true
is_statement k.Case = true
is_statement k.Default = true
is_statement k.TypeCase = true
is_statement k.Comm = true
is_statement k.Condition = true
is_statement k.Post = true
is_statement k.Bind = true
is_statement k.TypeGuard = true
is_statement _ = false

abbrev pub is_clause : NodeKind → Bool
is_clause k.Case = true
is_clause k.Default = true
is_clause k.TypeCase = true
is_clause k.Comm = true
is_clause _ = false

abbrev pub is_default : NodeKind → Bool
is_default k.Default = true
is_default _ = false

abbrev pub is_condition : NodeKind → Bool
is_condition k.Condition = true
is_condition _ = false

abbrev pub is_post : NodeKind → Bool
is_post k.Post = true
is_post _ = false

-- what a type switch switches on, with a name or without
abbrev pub is_guard : NodeKind → Bool
is_guard k.Bind = true
is_guard k.TypeGuard = true
is_guard _ = false

abbrev pub is_bind : NodeKind → Bool
is_bind k.Bind = true
is_bind _ = false

abbrev pub is_type_list : NodeKind → Bool
is_type_list k.TypeList = true
is_type_list _ = false

abbrev pub is_name : NodeKind → Bool
is_name k.Name = true
is_name _ = false

abbrev pub is_call : NodeKind → Bool
is_call k.Call = true
is_call k.CallSpread = true
is_call _ = false

abbrev pub is_unary : NodeKind → Bool
is_unary k.Unary = true
is_unary _ = false

-- ---- semicolons

abbrev pub is_semi : TokenKind → Bool
is_semi t.Semi = true
is_semi _ = false

abbrev pub ends_at : Unit → ℕ → ℕ → Bool
ends_at u file i = option_map_or (λ (token : Token). is_semi token.kind) (token_at u file i) false

-- a semicolon stands behind the node: it is a statement in front of a condition or a tag
abbrev pub is_followed : Unit → ℕ → Node → Bool
is_followed u file node = ends_at u file (suc node.last)

abbrev pub is_followed_at : Unit → ℕ → List Node → Option ℕ → Bool
is_followed_at u file nodes o = option_map_or (is_followed u file) (option_and_then (λ n. slice_get nodes n) o) false

-- ---- conditions

-- "If statements": the expression stands before the block
abbrev pub if_slot : List Node → Node → ℕ
if_slot nodes node = if is_block (part_kind nodes node 1) then 0 else 1

-- "For statements with single condition"
abbrev pub loop_condition : List Node → Node → Option ℕ
loop_condition nodes node = if is_block (part_kind nodes node 0) then None else part node 0

-- "For statements with for clause": an init statement may stand before it
abbrev pub second_condition : List Node → Node → Option ℕ
second_condition nodes node = if is_condition (part_kind nodes node 1) then part node 1 else None

abbrev pub clause_condition : List Node → Node → Option ℕ
clause_condition nodes node = if is_condition (part_kind nodes node 0) then part node 0 else second_condition nodes node

abbrev pub condition_of : NodeKind → List Node → Node → Option ℕ
condition_of k.If nodes node = part node (if_slot nodes node)
condition_of k.For nodes node = loop_condition nodes node
condition_of k.ForClause nodes node = clause_condition nodes node
condition_of _ nodes node = None

-- ---- tags and guards

-- a part that stands before the clauses of a switch
abbrev pub leads : List Node → Node → ℕ → Bool
leads nodes node i = option_map_or (λ n. not (is_clause (kind_at nodes n))) (part node i) false

abbrev pub first_tag : Unit → ℕ → List Node → Node → Option ℕ
first_tag u file nodes node = if leads nodes node 0 && not (is_followed_at u file nodes (part node 0)) then Some 0 else None

-- "Expression switches": in which slot the tag stands, if there is one
abbrev pub tag_slot : Unit → ℕ → List Node → Node → Option ℕ
tag_slot u file nodes node = if leads nodes node 1 then Some 1 else first_tag u file nodes node

abbrev pub tag_of : Unit → ℕ → List Node → Node → Option ℕ
tag_of u file nodes node = option_and_then (part node) (tag_slot u file nodes node)

-- "Type switches": in which slot the guard stands
abbrev pub guard_slot : List Node → Node → ℕ
guard_slot nodes node = if is_guard (part_kind nodes node 0) then 0 else 1

abbrev pub guard_of : List Node → Node → Option ℕ
guard_of nodes node = part node (guard_slot nodes node)

-- ---- places of statements

abbrev pub opens_for : NodeKind → Bool
opens_for kind = not (is_condition kind) && (not (is_post kind) && not (is_block kind))

-- a statement may stand in the slot
abbrev pub takes_statement : Unit → ℕ → List Node → NodeKind → Node → ℕ → Bool
takes_statement u file nodes k.Block around slot = true
takes_statement u file nodes k.List around slot = true
takes_statement u file nodes k.Post around slot = true
takes_statement u file nodes k.Label around slot = slot == 1
takes_statement u file nodes k.If around slot = slot == 0 && not (is_block (part_kind nodes around 1))
takes_statement u file nodes k.Switch around slot = slot == 0 && (leads nodes around 0 && is_followed_at u file nodes (part around 0))
takes_statement u file nodes k.TypeSwitch around slot = slot == 0 && not (is_guard (part_kind nodes around 0))
takes_statement u file nodes k.ForClause around slot = slot == 0 && opens_for (part_kind nodes around 0)
takes_statement u file nodes _ around slot = false

-- ---- names of labels

-- "Labeled statements", "Break statements", "Continue statements", "Goto statements": what stands there is no use
abbrev pub names_label : NodeKind → ℕ → Bool
names_label k.Label slot = slot == 0
names_label k.Break slot = true
names_label k.Continue slot = true
names_label k.Goto slot = true
names_label _ slot = false
