-- What may copy a lock, by its form.
use Rattle.std.specs.Prelude.{ℕ, zero, suc, ◌+◌, ◌&&◌, ◌||◌, ◌++◌, Bool, true, false, if◌then◌else◌, List, [], codes, length, Option, Some, None, slice_get, option_and_then, bytes_eq}
use Rattle.std.specs.Option.{option_map_or}
use Rattle.go_tree.specs.declared.bindings.Object.{Object}
use Rattle.go_tree.specs.declared.bindings.Object.TheVariants as o
use Rattle.go_tree.specs.declared.tree.Node.{Node}
use Rattle.go_tree.specs.declared.tree.NodeKind.{NodeKind}
use Rattle.go_tree.specs.declared.tree.NodeKind.TheVariants as k
use Rattle.object_order.specs.Spots.{place}
use Rattle.package_objects.specs.Declares.{items, part, kind_at}
use Rattle.typed_marks.specs.declared.item.Stage.{Stage}
use Rattle.typed_marks.specs.declared.item.Stage.TheVariants as s
use Rattle.unit_read.specs.Units.{Unit, nodes_at, name_at, object_at, is_blank}
use Rattle.vet_words.specs.Forms.{is_call, bare}
use Rattle.vet_words.specs.Texts.{spelling_at}
use Rattle.vet_locks.specs.declared.suspected.Words.{Words}
use Rattle.vet_locks.specs.declared.suspected.Words.TheVariants as w
use Rattle.vet_locks.specs.declared.suspected.Suspect.{Suspect}

-- ---- values that are made where they stand

-- a composite literal, or one within another
abbrev pub is_literal : NodeKind → Bool
is_literal k.Composite = true
is_literal k.Value = true
is_literal _ = false

abbrev pub is_star : NodeKind → Bool
is_star k.Star = true
is_star _ = false

abbrev pub is_call_at : List Node → ℕ → Bool
is_call_at nodes n = is_call (kind_at nodes (bare nodes n))

-- what a call leads to
abbrev pub is_led : List Node → Node → Bool
is_led nodes node = is_star node.kind && option_map_or (is_call_at nodes) (part node 0) false

-- a composite literal, a call, a conversion, or `*` of a call
abbrev pub is_made : List Node → Node → Bool
is_made nodes node = is_literal node.kind || (is_call node.kind || is_led nodes node)

-- parentheses dropped
abbrev pub is_made_at : List Node → ℕ → Bool
is_made_at nodes n = option_map_or (is_made nodes) (slice_get nodes (bare nodes n)) false

abbrev pub suspect : Stage → Words → ℕ → Suspect
suspect stage words n = record { stage = stage; node = n; words = words }

-- a value, unless it is made there
abbrev pub copied : List Node → Words → ℕ → Option Suspect
copied nodes words n = if is_made_at nodes n then None else Some (suspect s.Placed words n)

-- ---- assignments and variables

abbrev pub pair_words : Bool → ℕ → Words
pair_words declares x = if declares then w.Declared x else w.Assigned x

abbrev pub copied_to : List Node → Bool → ℕ → ℕ → Option Suspect
copied_to nodes declares y x = copied nodes (pair_words declares x) y

-- the i-th on the right, with the i-th on the left
abbrev pub pair_at : List Node → Bool → Option ℕ → Option ℕ → ℕ → Option Suspect
pair_at nodes declares left right i = option_and_then (λ y. option_and_then (copied_to nodes declares y) (slice_get (items nodes left) i)) (slice_get (items nodes right) i)

-- ---- literals, returned values and arguments

abbrev pub is_pair : NodeKind → Bool
is_pair k.KeyValue = true
is_pair _ = false

-- the value of an element, which may stand behind a key
abbrev pub value_in : Node → Option ℕ → Option ℕ
value_in node own = if is_pair node.kind then part node 1 else own

abbrev pub value_at : List Node → ℕ → Option ℕ
value_at nodes n = option_and_then (λ (node : Node). value_in node (Some n)) (slice_get nodes n)

abbrev pub element_at : List Node → Node → ℕ → Option Suspect
element_at nodes node i = option_and_then (copied nodes w.Literal) (option_and_then (value_at nodes) (part node i))

abbrev pub returned_at : List Node → Node → ℕ → Option Suspect
returned_at nodes node i = option_and_then (copied nodes w.Returned) (slice_get (items nodes (part node 0)) i)

abbrev pub is_universe : Object → Bool
is_universe (o.Universe i) = true
is_universe (o.Import at) = false
is_universe (o.Local at) = false
is_universe (o.Package at) = false

abbrev pub measures_name : List ℕ → Bool
measures_name name = bytes_eq name (codes "new") || (bytes_eq name (codes "len") || bytes_eq name (codes "cap"))

abbrev pub is_predeclared : Unit → ℕ → ℕ → Bool
is_predeclared u f n = option_map_or is_universe (object_at u (place f n)) false

-- the predeclared `new`, `len` or `cap`
abbrev pub measures : Unit → ℕ → ℕ → Bool
measures u f n = is_predeclared u f (bare (nodes_at u f) n) && measures_name (name_at u (place f (bare (nodes_at u f) n)))

abbrev pub argument_of : Unit → ℕ → Node → ℕ → ℕ → Option Suspect
argument_of u f node i callee = if measures u f callee then None else option_and_then (copied (nodes_at u f) (w.Argument callee)) (part node i)

-- the i-th part, which is an argument but for the first
abbrev pub argument_at : Unit → ℕ → Node → ℕ → Option Suspect
argument_at u f node zero = None
argument_at u f node (suc i) = option_and_then (argument_of u f node (suc i)) (part node 0)

-- ---- receivers and parameters

abbrev pub is_param : NodeKind → Bool
is_param k.Param = true
is_param _ = false

-- `...T` is a slice
abbrev pub is_spread : NodeKind → Bool
is_spread k.SpreadParam = true
is_spread k.Variadic = true
is_spread _ = false

-- the type of an entry: that of its names, or the entry itself
abbrev pub entry_type : Node → ℕ → Option ℕ
entry_type entry n = if is_param entry.kind then part entry 1 else (if is_spread entry.kind then None else Some n)

abbrev pub entry_type_at : List Node → ℕ → Option ℕ
entry_type_at nodes n = option_and_then (λ (entry : Node). entry_type entry n) (slice_get nodes n)

abbrev pub passed : Words → ℕ → Option Suspect
passed words n = Some (suspect s.Placed words n)

abbrev pub entry_at : List Node → Words → Node → ℕ → Option Suspect
entry_at nodes words params i = option_and_then (passed words) (option_and_then (entry_type_at nodes) (part params i))

-- the i-th entry of a list of parameters
abbrev pub param_at : List Node → Words → Option ℕ → ℕ → Option Suspect
param_at nodes words params i = option_and_then (λ (node : Node). entry_at nodes words node i) (option_and_then (slice_get nodes) params)

abbrev pub function_at : List Node → Node → ℕ → ℕ → Option Suspect
function_at nodes node i name = param_at nodes (w.Passed name) (part node 1) i

-- the receiver, and then the parameters
abbrev pub method_at : List Node → Node → ℕ → ℕ → Option Suspect
method_at nodes node zero name = param_at nodes (w.Passed name) (part node 0) 0
method_at nodes node (suc i) name = param_at nodes (w.Passed name) (part node 2) i

abbrev pub entry_count : List Node → Option ℕ → ℕ
entry_count nodes params = option_map_or (λ (node : Node). length node.parts) (option_and_then (slice_get nodes) params) 0

abbrev pub method_count : List Node → Option ℕ → ℕ
method_count nodes params = option_map_or (λ (node : Node). length node.parts + 1) (option_and_then (slice_get nodes) params) 1

-- ---- range clauses

abbrev pub is_blank_at : Unit → ℕ → ℕ → Bool
is_blank_at u f n = is_blank (name_at u (place f (bare (nodes_at u f) n)))

abbrev pub ranged : Unit → ℕ → Stage → ℕ → Option Suspect
ranged u f stage n = if is_blank_at u f n then None else Some (suspect stage (w.Ranged n) n)

abbrev pub ranged_at : Unit → ℕ → Stage → Node → ℕ → Option Suspect
ranged_at u f stage node i = option_and_then (ranged u f stage) (slice_get (items (nodes_at u f) (part node 0)) i)

-- ---- all of a node

-- how many there may be, by the kind of the node
abbrev pub count_by : List Node → Node → NodeKind → ℕ
count_by nodes node k.Assign = length (items nodes (part node 1))
count_by nodes node k.Define = length (items nodes (part node 1))
count_by nodes node k.VarValues = length (items nodes (part node 1))
count_by nodes node k.VarTypedValues = length (items nodes (part node 2))
count_by nodes node k.Value = length node.parts
count_by nodes node k.Return = length (items nodes (part node 0))
count_by nodes node k.Call = length node.parts
count_by nodes node k.CallSpread = length node.parts
count_by nodes node k.FuncDecl = entry_count nodes (part node 1)
count_by nodes node k.MethodDecl = method_count nodes (part node 2)
count_by nodes node k.FuncLit = entry_count nodes (part node 0)
count_by nodes node k.ForRangeAssign = length (items nodes (part node 0))
count_by nodes node k.ForRangeDefine = length (items nodes (part node 0))
count_by nodes node _ = 0

-- the i-th of them
abbrev pub suspect_by : Unit → ℕ → List Node → Node → ℕ → NodeKind → Option Suspect
suspect_by u f nodes node i k.Assign = pair_at nodes false (part node 0) (part node 1) i
suspect_by u f nodes node i k.Define = pair_at nodes false (part node 0) (part node 1) i
suspect_by u f nodes node i k.VarValues = pair_at nodes true (part node 0) (part node 1) i
suspect_by u f nodes node i k.VarTypedValues = pair_at nodes true (part node 0) (part node 2) i
suspect_by u f nodes node i k.Value = element_at nodes node i
suspect_by u f nodes node i k.Return = returned_at nodes node i
suspect_by u f nodes node i k.Call = argument_at u f node i
suspect_by u f nodes node i k.CallSpread = argument_at u f node i
suspect_by u f nodes node i k.FuncDecl = option_and_then (function_at nodes node i) (part node 0)
suspect_by u f nodes node i k.MethodDecl = option_and_then (method_at nodes node i) (part node 1)
suspect_by u f nodes node i k.FuncLit = param_at nodes w.PassedByLiteral (part node 0) i
suspect_by u f nodes node i k.ForRangeAssign = ranged_at u f s.Placed node i
suspect_by u f nodes node i k.ForRangeDefine = ranged_at u f s.Object node i
suspect_by u f nodes node i _ = None

abbrev pub count_of : Unit → ℕ → Node → ℕ
count_of u f node = count_by (nodes_at u f) node node.kind

abbrev pub suspect_at : Unit → ℕ → Node → ℕ → Option Suspect
suspect_at u f node i = suspect_by u f (nodes_at u f) node i node.kind

-- ---- what is said of it

abbrev pub said : List ℕ → List ℕ → List ℕ → List ℕ
said front name back = front ++ (name ++ back)

abbrev pub text_of : Unit → ℕ → Words → List ℕ
text_of u f (w.Assigned x) = said (codes "assignment copies lock value to ") (spelling_at u f x) []
text_of u f (w.Declared x) = said (codes "variable declaration copies lock value to ") (spelling_at u f x) []
text_of u f w.Literal = codes "literal copies lock value"
text_of u f w.Returned = codes "return copies lock value"
text_of u f (w.Argument callee) = said (codes "call of ") (spelling_at u f callee) (codes " copies lock value")
text_of u f (w.Passed name) = said [] (spelling_at u f name) (codes " passes lock by value")
text_of u f w.PassedByLiteral = codes "func passes lock by value"
text_of u f (w.Ranged x) = said (codes "range var ") (spelling_at u f x) (codes " copies lock")
