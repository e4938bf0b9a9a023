-- The objects that a package's files declare, and on what each declaration rests (Go 1.17, "Declarations and scope"): constants,
-- variables, types, functions, methods, and what functions declare in themselves. Labels, fields, the methods of an interface, parameters
-- of signatures without a body and imports are none.
use Rattle.std.specs.Prelude.{◌≡◌, ◌≤◌, ◌^◌, ℕ, zero, suc, ◌-◌, ◌==◌, ◌&&◌, Bool, true, false, if◌then◌else◌, List, [], ◌∷◌, ◌++◌, length, Option, Some, None, slice_get, is_some, option_map}
use Rattle.std.specs.List.{cons_option}
use Rattle.std.specs.Option.{option_map_or}
use Rattle.go_tree.specs.declared.tree.Node.{Node}
use Rattle.go_tree.specs.declared.tree.NodeKind.{NodeKind}
use Rattle.go_tree.specs.declared.tree.NodeKind.TheVariants as k
use Rattle.go_tree.specs.declared.tree.NodeRef.{NodeRef}
use Rattle.object_order.specs.declared.spot.Form.{Form}
use Rattle.object_order.specs.declared.spot.Form.TheVariants as form
use Rattle.object_order.specs.declared.spot.Role.{Role}
use Rattle.object_order.specs.declared.spot.Role.TheVariants as role
use Rattle.object_order.specs.declared.spot.Root.{Root}
use Rattle.object_order.specs.declared.spot.Entry.{Entry}
use Rattle.object_order.specs.Spots.{place}
use Rattle.std.specs.Global.{Vec}
use Rattle.go_tree.specs.declared.tree.FileTree.{FileTree}
use Rattle.package_objects.specs.declared.valued.Valued.{Valued}

-- what the numbers below n give, in turn
abbrev pub gather : {A : Type 0} → (ℕ → List A) → ℕ → List A
gather g zero = []
gather g (suc n) = gather g n ++ g n

-- ---- nodes

abbrev pub is_list : NodeKind → Bool
is_list k.Names = true
is_list k.Exprs = true
is_list _ = false

-- the names or expressions that a node stands for: two or more have a node of their own
abbrev pub listed : ℕ → Node → List ℕ
listed n node = if is_list node.kind then node.parts else n ∷ []

abbrev pub items_at : List Node → ℕ → List ℕ
items_at nodes n = option_map_or (listed n) (slice_get nodes n) []

abbrev pub items : List Node → Option ℕ → List ℕ
items nodes o = option_map_or (items_at nodes) o []

abbrev pub part : Node → ℕ → Option ℕ
part node i = slice_get node.parts i

abbrev pub kind_at : List Node → ℕ → NodeKind
kind_at nodes n = option_map_or (λ (node : Node). node.kind) (slice_get nodes n) k.Package

-- ---- names with values

abbrev pub rooted : Role → Option ℕ → Option Root
rooted r o = option_map (λ n. record { role = r; node = n }) o

-- Which value belongs to the name at a place: the only one to each variable ("Variable declarations": one call may give several values), else that
-- at the same place.
abbrev pub value_place : Bool → ℕ → ℕ → ℕ
value_place several count i = if several && (count == 1) then 0 else i

abbrev pub value_of : List Node → Valued → ℕ → Option Root
value_of nodes v i = rooted v.role (slice_get (items nodes v.values) (value_place v.several (length (items nodes v.values)) i))

-- the name is a use: a short variable declaration only assigns it
abbrev pub is_use : List (Option NodeRef) → ℕ → Bool
is_use uses n = option_map_or (λ (o : Option NodeRef). is_some o) (slice_get uses n) false

-- a name with what its declaration rests on
abbrev pub declared_name : ℕ → Form → List (Option NodeRef) → List Root → ℕ → List Entry
declared_name file f uses roots n = if is_use uses n then [] else record { name = place file n; form = f; roots = roots } ∷ []

abbrev pub roots_of : List Node → Valued → ℕ → List Root
roots_of nodes v i = cons_option v.typing [] ++ cons_option (value_of nodes v i) []

abbrev pub valued_name : ℕ → List Node → List (Option NodeRef) → Valued → Option ℕ → ℕ → List Entry
valued_name file nodes uses v names i = option_map_or (declared_name file form.Other uses (roots_of nodes v i)) (slice_get (items nodes names) i) []

-- the names of a specification
abbrev pub valued : ℕ → List Node → List (Option NodeRef) → Valued → Option ℕ → List Entry
valued file nodes uses v names = gather (valued_name file nodes uses v names) (length (items nodes names))

-- ---- constants

-- whether a constant specification has values
abbrev pub has_list : NodeKind → Bool
has_list k.ConstValues = true
has_list k.ConstTyped = true
has_list _ = false

abbrev pub no_list : Valued
no_list = record { several = false; role = role.Resting; typing = None; values = None }

-- what a specification says of type and values
abbrev pub const_list : NodeKind → Node → Valued
const_list k.ConstTyped spec = record { several = false; role = role.Resting; typing = rooted role.Typing (part spec 1); values = part spec 2 }
const_list k.ConstValues spec = record { several = false; role = role.Resting; typing = None; values = part spec 1 }
const_list _ spec = no_list

abbrev pub list_of : List Node → Option ℕ → Valued
list_of nodes source = option_map_or (λ n. option_map_or (λ (spec : Node). const_list spec.kind spec) (slice_get nodes n) no_list) source no_list

abbrev pub newer : List Node → Option ℕ → ℕ → Option ℕ
newer nodes source n = if has_list (kind_at nodes n) then Some n else source

abbrev pub source_with : List Node → Option ℕ → Option ℕ → Option ℕ
source_with nodes source o = option_map_or (newer nodes source) o source

-- "Constant declarations": an empty list repeats the first preceding one that isn't empty, with its type. Of the specifications of a declaration
-- the one whose list counts after the first few.
abbrev pub source_after : List Node → List ℕ → ℕ → Option ℕ
source_after nodes specs zero = None
source_after nodes specs (suc i) = source_with nodes (source_after nodes specs i) (slice_get specs i)

abbrev pub const_names : ℕ → List Node → Option ℕ → Node → List Entry
const_names file nodes source spec = valued file nodes [] (list_of nodes source) (part spec 0)

abbrev pub const_at : ℕ → List Node → Option ℕ → Option ℕ → List Entry
const_at file nodes source o = option_map_or (λ n. option_map_or (const_names file nodes source) (slice_get nodes n) []) o []

abbrev pub const_spec : ℕ → List Node → List ℕ → ℕ → List Entry
const_spec file nodes specs i = const_at file nodes (source_after nodes specs (suc i)) (slice_get specs i)

abbrev pub constants : ℕ → List Node → Node → List Entry
constants file nodes node = gather (const_spec file nodes node.parts) (length node.parts)

-- ---- parameters

abbrev pub typed : Role → Node → Valued
typed r node = record { several = true; role = role.Beside; typing = rooted r (part node 1); values = None }

-- the names of a parameter: of a variadic one the type is that of the elements
abbrev pub parameter : ℕ → List Node → NodeKind → Node → List Entry
parameter file nodes k.Param node = valued file nodes [] (typed role.Typing node) (part node 0)
parameter file nodes k.SpreadParam node = valued file nodes [] (typed role.Beside node) (part node 0)
parameter file nodes _ node = []

abbrev pub parameter_at : ℕ → List Node → ℕ → List Entry
parameter_at file nodes n = option_map_or (λ (node : Node). parameter file nodes node.kind node) (slice_get nodes n) []

abbrev pub nth_parameter : ℕ → List Node → Node → ℕ → List Entry
nth_parameter file nodes node i = option_map_or (parameter_at file nodes) (part node i) []

abbrev pub is_params : NodeKind → Bool
is_params k.Params = true
is_params _ = false

abbrev pub param_list : ℕ → List Node → Node → List Entry
param_list file nodes node = if is_params node.kind then gather (nth_parameter file nodes node) (length node.parts) else []

abbrev pub params_at : ℕ → List Node → ℕ → List Entry
params_at file nodes n = option_map_or (param_list file nodes) (slice_get nodes n) []

abbrev pub nth_params : ℕ → List Node → Node → ℕ → List Entry
nth_params file nodes node i = option_map_or (params_at file nodes) (part node i) []

abbrev pub is_block : NodeKind → Bool
is_block k.Block = true
is_block _ = false

-- whether a function ends in a body
abbrev pub ends_in_body : List Node → Node → Bool
ends_in_body nodes node = option_map_or (λ n. is_block (kind_at nodes n)) (part node (length node.parts - 1)) false

-- receiver, parameters and results of a function with a body
abbrev pub parameters : ℕ → List Node → Node → List Entry
parameters file nodes node = if ends_in_body nodes node then gather (nth_params file nodes node) (length node.parts) else []

-- ---- the other declarations

-- the name that is a part of the node
abbrev pub name_of : ℕ → Form → List Root → Node → ℕ → List Entry
name_of file f roots node i = option_map_or (declared_name file f [] roots) (part node i) []

abbrev pub is_type_case : NodeKind → Bool
is_type_case k.TypeCase = true
is_type_case _ = false

-- the types of a clause of a type switch
abbrev pub case_types : Node → List Root
case_types node = if is_type_case node.kind then cons_option (rooted role.Resting (part node 0)) [] else []

abbrev pub clause_types : List Node → Node → ℕ → List Root
clause_types nodes node i = option_map_or (λ n. option_map_or case_types (slice_get nodes n) []) (part node i) []

-- the operand of a type switch, and the types of its clauses
abbrev pub switch_roots : List Node → Node → Node → List Root
switch_roots nodes node bind = cons_option (rooted role.Resting (part bind 1)) [] ++ gather (clause_types nodes node) (length node.parts)

abbrev pub is_bind : NodeKind → Bool
is_bind k.Bind = true
is_bind _ = false

abbrev pub bind_name : ℕ → List Node → Node → Node → List Entry
bind_name file nodes node bind = if is_bind bind.kind then name_of file form.Other (switch_roots nodes node bind) bind 0 else []

abbrev pub switch_part : ℕ → List Node → Node → ℕ → List Entry
switch_part file nodes node i = option_map_or (λ n. option_map_or (bind_name file nodes node) (slice_get nodes n) []) (part node i) []

abbrev pub switch_name : ℕ → List Node → Node → List Entry
switch_name file nodes node = gather (switch_part file nodes node) (length node.parts)

abbrev pub with_values : Option Root → Role → Option ℕ → Valued
with_values typing r values = record { several = true; role = r; typing = typing; values = values }

-- the function itself, on whose signature it rests
abbrev pub itself : ℕ → List Root
itself n = record { role = role.Beside; node = n } ∷ []

-- What a node declares, by its kind. Functions and methods rest on their signatures alone: no search goes into a body.
abbrev pub declares : ℕ → List Node → List (Option NodeRef) → ℕ → NodeKind → Node → List Entry
declares file nodes uses n k.Const node = constants file nodes node
declares file nodes uses n k.ConstGroup node = constants file nodes node
declares file nodes uses n k.VarValues node = valued file nodes [] (with_values None role.Resting (part node 1)) (part node 0)
declares file nodes uses n k.VarTyped node = valued file nodes [] (typed role.Typing node) (part node 0)
declares file nodes uses n k.VarTypedValues node = valued file nodes [] (with_values (rooted role.Typing (part node 1)) role.Beside (part node 2)) (part node 0)
declares file nodes uses n k.Define node = valued file nodes uses (with_values None role.Resting (part node 1)) (part node 0)
declares file nodes uses n k.ForRangeDefine node = valued file nodes uses (typed role.Resting node) (part node 0)
declares file nodes uses n k.TypeSwitch node = switch_name file nodes node
declares file nodes uses n k.FuncDecl node = name_of file form.Other (itself n) node 0 ++ parameters file nodes node
declares file nodes uses n k.MethodDecl node = name_of file form.Other (itself n) node 1 ++ parameters file nodes node
declares file nodes uses n k.FuncLit node = parameters file nodes node
declares file nodes uses n k.Defined node = name_of file form.Defined (cons_option (rooted role.Typing (part node 1)) []) node 0
declares file nodes uses n k.Alias node = name_of file form.Alias (cons_option (rooted role.Typing (part node 1)) []) node 0
declares file nodes uses n _ node = []

-- ---- files

-- each tree has at most 2^32 nodes, so that each node has a number
abbrev pub AreSmall : List FileTree → Type 0
AreSmall trees = (f : ℕ) (tree : FileTree) → slice_get trees f ≡ Some tree → length tree.nodes ≤ 2 ^ 32

abbrev pub declares_at : ℕ → List Node → List (Option NodeRef) → ℕ → List Entry
declares_at file nodes uses n = option_map_or (λ (node : Node). declares file nodes uses n node.kind node) (slice_get nodes n) []

abbrev pub declared_in : ℕ → List Node → List (Option NodeRef) → List Entry
declared_in file nodes uses = gather (declares_at file nodes uses) (length nodes)

-- what the nodes of a file mention
abbrev pub uses_of : List (Vec (Option NodeRef)) → ℕ → List (Option NodeRef)
uses_of meant file = option_map_or (λ (row : Vec (Option NodeRef)). row.items) (slice_get meant file) []

abbrev pub declared_by : List FileTree → List (Vec (Option NodeRef)) → ℕ → List Entry
declared_by trees meant file = option_map_or (λ (tree : FileTree). declared_in file tree.nodes (uses_of meant file)) (slice_get trees file) []

-- The declarations of a package's files, in order of file and node.
abbrev pub declared : List FileTree → List (Vec (Option NodeRef)) → List Entry
declared trees meant = gather (declared_by trees meant) (length trees)
