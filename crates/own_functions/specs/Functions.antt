-- The functions and methods that a package declares, by name (Go 1.17, "Function declarations", "Method declarations").
use Rattle.std.specs.Prelude.{ℕ, ◌-◌, ◌==◌, ◌&&◌, ◌||◌, not, Bool, true, false, if◌then◌else◌, List, [], ◌∷◌, codes, length, map, bytes_eq, Option, Some, None, slice_get, option_map, option_and_then}
use Rattle.std.specs.Option.{option_map_or}
use Rattle.go_tree.specs.Lexeme.{place_of}
use Rattle.go_tree.specs.declared.tree.Node.{Node}
use Rattle.go_tree.specs.declared.tree.NodeKind.{NodeKind}
use Rattle.go_tree.specs.declared.tree.NodeKind.TheVariants as k
use Rattle.go_tree.specs.declared.tree.NodeRef.{NodeRef}
use Rattle.object_order.specs.Spots.{place}
use Rattle.package_objects.specs.Declares.{gather, part, kind_at}
use Rattle.unit_read.specs.Methods.{method_name}
use Rattle.unit_read.specs.Units.{Unit, nodes_at, name_at, is_blank}
use Rattle.least.specs.Tables.{Member, member}
use Rattle.member_names.specs.Named.{dotted}

-- ---- names

-- the path of a package, and the name of a function of it or of a method behind its type, `Type.Method`
abbrev pub Pair : Type 0
Pair = List ℕ × List ℕ

-- a function that can be named: no `init`, and not blank
abbrev pub can_be_named : List ℕ → Bool
can_be_named name = not (bytes_eq name (codes "init") || is_blank name)

abbrev pub if_named : List ℕ → Option (List ℕ)
if_named name = if can_be_named name then Some name else None

abbrev pub function_name : Unit → ℕ → Node → Option (List ℕ)
function_name u f node = option_and_then (λ n. if_named (name_at u (place f n))) (part node 0)

abbrev pub if_method : List ℕ → List ℕ → Option (List ℕ)
if_method of name = if is_blank name then None else Some (dotted of name)

abbrev pub method_of : Unit → NodeRef → NodeRef → Option (List ℕ)
method_of u at t = if_method (name_at u t) (method_name u at)

-- `Type.Method`
abbrev pub type_and_method : Unit → NodeRef → Option (List ℕ)
type_and_method u at = option_and_then (method_of u at) (u.owner at)

-- the kinds of nodes that declare functions and methods
abbrev pub declares : NodeKind → Bool
declares k.FuncDecl = true
declares k.MethodDecl = true
declares _ = false

abbrev pub name_by : Unit → ℕ → ℕ → Node → NodeKind → Option (List ℕ)
name_by u f n node k.FuncDecl = function_name u f node
name_by u f n node k.MethodDecl = type_and_method u (place f n)
name_by u f n node _ = None

-- ---- functions

-- a name, and where it is declared
abbrev pub Named : Type 0
Named = List ℕ × NodeRef

abbrev pub name_in : Named → List ℕ
name_in x = x.0

abbrev pub named_at : ℕ → ℕ → List ℕ → List Named
named_at f n name = (name, place f n) ∷ []

abbrev pub function_by : Unit → ℕ → ℕ → Node → List Named
function_by u f n node = option_map_or (named_at f n) (name_by u f n node node.kind) []

abbrev pub function_at : Unit → ℕ → ℕ → List Named
function_at u f n = option_map_or (function_by u f n) (slice_get (nodes_at u f) n) []

abbrev pub functions_in : Unit → ℕ → List Named
functions_in u f = gather (function_at u f) (length (nodes_at u f))

-- all of them that can be named, in order of file and node
abbrev pub functions : Unit → List Named
functions u = gather (functions_in u) (length u.trees)

abbrev pub names : Unit → List (List ℕ)
names u = map name_in (functions u)

-- the first of a name
abbrev pub first_of : Unit → List ℕ → Option ℕ
first_of u name = place_of (names u) name

abbrev pub node_in : Named → NodeRef
node_in x = x.1

abbrev pub declared_at : Unit → List ℕ → Option NodeRef
declared_at u name = option_map node_in (option_and_then (slice_get (functions u)) (first_of u name))

-- ---- members

-- the package may have this member, of a kind
abbrev pub is_own : ℕ → Unit → Member → Bool
is_own kind u m = (m.kind == kind) && bytes_eq m.path u.path

abbrev pub number : ℕ → Unit → Member → Option ℕ
number kind u m = if is_own kind u m then first_of u m.name else None

-- the name of a number; of no number no name
abbrev pub nth_name : Unit → ℕ → List ℕ
nth_name u i = option_map_or name_in (slice_get (functions u) i) []

-- the member of a number
abbrev pub member_at : ℕ → Unit → ℕ → Member
member_at kind u i = member u.path (nth_name u i) kind

-- ---- bodies

abbrev pub is_block : NodeKind → Bool
is_block k.Block = true
is_block _ = false

abbrev pub last_part : Node → Option ℕ
last_part node = part node (length node.parts - 1)

abbrev pub if_block : List Node → ℕ → Option ℕ
if_block nodes n = if is_block (kind_at nodes n) then Some n else None

-- the block of a declaration, which stands last; one without a body has none
abbrev pub block_of : List Node → Node → Option ℕ
block_of nodes node = option_and_then (if_block nodes) (last_part node)

abbrev pub block_at : List Node → ℕ → Option ℕ
block_at nodes n = option_and_then (block_of nodes) (slice_get nodes n)
