-- A package as its rules read it: its files with their trees, what the uses in them denote, and what stands where in them.
use Rattle.std.specs.Prelude.{◌≡◌, ℕ, zero, suc, Bool, ◌&&◌, ◌||◌, true, false, if◌then◌else◌, List, [], ◌∷◌, length, map, Option, Some, None, slice_get, slice_index_or, option_and_then, option_map, codes}
use Rattle.std.specs.List.{position_from}
use Rattle.std.specs.Option.{option_map_or}
use Rattle.std.specs.Str.{bytes_eq}
use Rattle.gv_base.specs.declared.constant.Kind.TheVariants as kind
use Rattle.package_faces.specs.Faces.{Face}
use Rattle.package_faces.specs.Declaring.{declared_by}
use Rattle.type_model.specs.declared.term.TypeName.{TypeName}
use Rattle.type_model.specs.GoTypes.{BasicType, InterfaceOf, AndMethod, NoMethod, From, NoType, AndType}
use Rattle.type_model.specs.Declarations.{Declaration, Declarations}
use Rattle.type_model.specs.Tables.{is_same_name}
use Rattle.typed_tree.specs.Universe.{error_name}
use Rattle.go_tree.specs.Spelling.{text_of}
use Rattle.go_tree.specs.declared.token.Token.{Token}
use Rattle.go_tree.specs.declared.tree.FileTree.{FileTree}
use Rattle.go_tree.specs.declared.tree.Node.{Node}
use Rattle.go_tree.specs.declared.tree.NodeKind.{NodeKind}
use Rattle.go_tree.specs.declared.tree.NodeKind.TheVariants as k
use Rattle.go_tree.specs.declared.tree.NodeRef.{NodeRef}
use Rattle.go_tree.specs.declared.bindings.Object.{Object}
use Rattle.object_order.specs.Spots.{place}
use Rattle.object_order.specs.Views.{same_key}
use Rattle.package_objects.specs.Declares.{gather, part}
use Rattle.const_tree.specs.declared.constant.Spec.{Spec}
use Rattle.const_tree.specs.Constants.{specs_in, first_from}
use Rattle.unit_read.specs.declared.passage.Passage.{Passage}
use Rattle.unit_read.specs.declared.place.Place.{Place}
use Rattle.unit_read.specs.Places.{place_of}
use Rattle.unit_read.specs.Passages.{passages}

-- The path of a package, the texts and trees of its files in the order of their paths, what the uses in them denote, and what is seen of the
-- packages to which imports lead: of two of one path the first counts; which of the names that it declares are declared before in their block, which are
-- cyclic: they need themselves, and which are circular: they are no types, and lead back to themselves; and of which type a node declares a method.
pub record Unit : Type 0 where
  pub path : List ℕ
  pub texts : List (List ℕ)
  pub trees : List FileTree
  pub uses : List (NodeRef × Object)
  pub env : List Face
  pub redeclared : NodeRef → Bool
  pub cyclic : NodeRef → Bool
  pub circular : NodeRef → Bool
  pub owner : NodeRef → Option NodeRef

-- ---- nodes and tokens

abbrev pub text_in : Unit → ℕ → List ℕ
text_in u f = slice_index_or u.texts f []

abbrev pub tree_at : Unit → ℕ → Option FileTree
tree_at u f = slice_get u.trees f

abbrev pub nodes_of : Option FileTree → List Node
nodes_of o = option_map_or (λ (tree : FileTree). tree.nodes) o []

abbrev pub nodes_at : Unit → ℕ → List Node
nodes_at u f = nodes_of (tree_at u f)

abbrev pub node_at : Unit → NodeRef → Option Node
node_at u at = slice_get (nodes_at u at.file) at.node

abbrev pub token_at : Unit → ℕ → ℕ → Option Token
token_at u f i = option_and_then (λ (tree : FileTree). slice_get tree.tokens i) (tree_at u f)

-- the bytes of a token
abbrev pub spelled : Unit → ℕ → ℕ → List ℕ
spelled u f i = option_map_or (text_of (text_in u f)) (token_at u f i) []

-- the bytes of a node's first token: all of a name or a literal
abbrev pub first_spelled : Unit → ℕ → Node → List ℕ
first_spelled u f node = spelled u f node.first

-- those of its last: the name that a selector selects
abbrev pub last_spelled : Unit → ℕ → Node → List ℕ
last_spelled u f node = spelled u f node.last

abbrev pub is_blank : List ℕ → Bool
is_blank name = bytes_eq name (codes "_")

-- the name that is written at a node
abbrev pub name_at : Unit → NodeRef → List ℕ
name_at u at = option_map_or (first_spelled u at.file) (node_at u at) []

-- ---- what is said of nodes

-- what the uses have for a node
abbrev pub object_in : List (NodeRef × Object) → NodeRef → Option Object
object_in [] at = None
object_in (entry ∷ uses) at = if same_key (entry.0.file, entry.0.node) (at.file, at.node) then Some entry.1 else object_in uses at

-- what a node denotes, if it is a use that denotes something
abbrev pub object_at : Unit → NodeRef → Option Object
object_at u at = option_and_then (λ (node : Node). object_in u.uses at) (node_at u at)

-- where a node stands
abbrev pub place_at : Unit → NodeRef → Option Place
place_at u at = option_and_then (λ (node : Node). place_of (nodes_at u at.file) at.node) (node_at u at)

-- the specification to which a node belongs
abbrev pub spec_at : Unit → NodeRef → Option Spec
spec_at u at = option_and_then (λ (node : Node). first_from at.node (specs_in (nodes_at u at.file))) (node_at u at)

-- ---- blocks

-- the passage of a block
abbrev pub passage_at : Unit → ℕ → Option Passage
passage_at u block = slice_get (passages u.trees) block

-- what stands at a place of a list is this node
abbrev pub is_this : NodeRef → Option NodeRef → Bool
is_this at None = false
is_this at (Some other) = same_key (at.file, at.node) (other.file, other.node)

-- the first place of a node in a list
abbrev pub first_place : NodeRef → List (Option NodeRef) → Option ℕ
first_place at list = position_from (is_this at) 0 list

-- the node of the specification that repeats the list of a passage
abbrev pub repeater : Passage → Option NodeRef
repeater p = option_map (λ (s : Spec). place p.file s.node) p.spec

-- the block of the list that a specification repeats
abbrev pub copy_at : Unit → NodeRef → Option ℕ
copy_at u at = option_and_then (λ (node : Node). first_place at (map repeater (passages u.trees))) (node_at u at)

-- ---- the types that are declared

abbrev pub is_defined_node : NodeKind → Bool
is_defined_node k.Defined = true
is_defined_node _ = false

abbrev pub named_node : ℕ → List Node → ℕ → List NodeRef
named_node f nodes n = option_map_or (λ (node : Node). place f n ∷ []) (slice_get nodes n) []

-- the name, if it is a node
abbrev pub named : ℕ → List Node → Option ℕ → List NodeRef
named f nodes o = option_map_or (named_node f nodes) o []

abbrev pub defined_by : ℕ → List Node → Node → List NodeRef
defined_by f nodes node = if is_defined_node node.kind then named f nodes (part node 0) else []

abbrev pub defined_at : ℕ → List Node → ℕ → List NodeRef
defined_at f nodes n = option_map_or (defined_by f nodes) (slice_get nodes n) []

abbrev pub defined_in : Unit → ℕ → List NodeRef
defined_in u f = gather (defined_at f (nodes_at u f)) (length (nodes_at u f))

-- the names of the defined types of a package, those in functions too, in order of file and place
abbrev pub defined : Unit → List NodeRef
defined u = gather (defined_in u) (length u.trees)

-- the node around another
abbrev pub around : Unit → NodeRef → Option NodeRef
around u at = option_map (λ (p : Place). place at.file p.around) (place_at u at)

abbrev pub is_none : Option NodeRef → Bool
is_none None = true
is_none (Some at) = false

-- the name is declared at package level: its specification's declaration stands in no other node
abbrev pub is_top : Unit → NodeRef → Bool
is_top u name = is_none (option_and_then (around u) (option_and_then (around u) (around u name)))

abbrev pub place_in : NodeRef → List NodeRef → ℕ → ℕ
place_in at [] n = n
place_in at (other ∷ list) n = if same_key (at.file, at.node) (other.file, other.node) then n else place_in at list (suc n)

-- The name of a defined type by the node of its name. What tells those in functions apart is their place among all, from 1.
abbrev pub type_name : Unit → NodeRef → TypeName
type_name u at = record { «package» = u.path; name = name_at u at; local = if is_top u at then 0 else place_in at (defined u) 1 }

abbrev pub is_among : NodeRef → List NodeRef → Bool
is_among at [] = false
is_among at (other ∷ list) = same_key (at.file, at.node) (other.file, other.node) || is_among at list

-- the name of a defined type, if one is declared at the node
abbrev pub type_name_at : Unit → NodeRef → Option TypeName
type_name_at u at = if is_among at (defined u) then Some (type_name u at) else None

abbrev pub named_by : Unit → TypeName → List NodeRef → Option NodeRef
named_by u name [] = None
named_by u name (at ∷ list) = if is_same_name (type_name u at) name then Some at else named_by u name list

-- The node at which a defined type of this package is declared; of those of one name at package level the first.
abbrev pub type_node : Unit → TypeName → Option NodeRef
type_node u name = named_by u name (defined u)

-- ---- what is declared from the start

-- "Predeclared identifiers": `type error interface { Error() string }`
abbrev pub error_declaration : Declaration
error_declaration = record { under = InterfaceOf (AndMethod (codes "Error") [] false (From NoType (AndType (BasicType kind.Text) NoType) false) NoMethod); methods = [] }

-- what the defined types of other packages are declared with; what is seen of this package itself is never asked
abbrev pub imported_from : Unit → Declarations
imported_from u name = if bytes_eq u.path name.package then None else declared_by u.env name

-- what the defined types of other packages and of the universe block are declared with
abbrev pub base_of : Unit → Declarations
base_of u name = if is_same_name name error_name then Some error_declaration else imported_from u name
