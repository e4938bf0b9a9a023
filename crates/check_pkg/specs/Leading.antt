-- Where the search for initialisation cycles begins: at what stands in declarations of variables and leads on, to a variable, a function or a method of the
-- package. Where nothing there does, there is no such cycle. What leads on is told broadly: by where the name stands that is meant, and by what stands before a dot.
use Rattle.std.specs.Prelude.{◌≡◌, ℕ, ◌⊎◌, ◌&&◌, ◌||◌, Bool, true, false, not, List, Some, length, slice_get, slice_index_or}
use Rattle.std.specs.Global.{Vec}
use Rattle.std.specs.Option.{option_map_or}
use Rattle.go_tree.specs.declared.tree.FileTree.{FileTree}
use Rattle.go_tree.specs.declared.tree.Node.{Node}
use Rattle.go_tree.specs.declared.tree.NodeKind.{NodeKind}
use Rattle.go_tree.specs.declared.tree.NodeKind.TheVariants as k
use Rattle.go_tree.specs.declared.tree.NodeRef.{NodeRef}
use Rattle.node_values.specs.Parents.{at}
use Rattle.node_values.specs.Trees.{IsPart, Holds}
use Rattle.object_order.specs.Spots.{place}
use Rattle.package_objects.specs.Declares.{part}
use Rattle.typed_marks.specs.declared.item.Item.{Item}
use Rattle.typed_marks.specs.Meanings.{Meaning, Right, Wrong, Beyond, Quiet, Wishes, Declares}
use Rattle.typed_tree.specs.Places.{is_package}
use Rattle.unit_read.specs.Units.{Unit, node_at}
use Rattle.rule_words.specs.Asking.{item}
use Rattle.typed_marks.specs.declared.item.Stage.TheVariants as s
use Rattle.selected_methods.specs.Owners.{is_selector}
use Rattle.check_pkg.specs.References.{reference_at}

-- ---- names of variables with values, of functions and of methods

-- what has such a name among its parts, or a list of such names; constants in lists are met too
abbrev pub has_names : NodeKind → Bool
has_names k.FuncDecl = true
has_names k.MethodDecl = true
has_names k.VarValues = true
has_names k.VarTypedValues = true
has_names k.Names = true
has_names k.Exprs = true
has_names _ = false

abbrev pub has_names_at : List Node → ℕ → Bool
has_names_at nodes n = option_map_or (λ (node : Node). has_names node.kind) (slice_get nodes n) false

-- n is a part of such a node
abbrev pub StandsNamed : List Node → ℕ → Type 0
StandsNamed nodes n = (p : ℕ) × IsPart nodes p n × (has_names_at nodes p ≡ true)

-- each such part is flagged
abbrev pub FlagsNamed : List Node → List Bool → Type 0
FlagsNamed nodes row = (n : ℕ) → StandsNamed nodes n → slice_index_or row n false ≡ true

pub record AreNamedRows (trees : List FileTree) (few : ℕ) (rows : List (Vec Bool)) : Type 0 where
  pub size : length rows ≡ few
  pub each : (f : ℕ) (tree : FileTree) (row : Vec Bool) → slice_get trees f ≡ Some tree → slice_get rows f ≡ Some row → FlagsNamed tree.nodes row.items

-- ---- what leads on

-- what is told of a value or of a type, and not of a package
abbrev pub tells_type : Meaning → Bool
tells_type (Right x) = not (is_package x.mode)
tells_type (Wrong rule) = false
tells_type (Beyond limit) = false
tells_type Quiet = false
tells_type (Wishes demand wish) = false
tells_type (Declares d) = false

abbrev pub has_type : (Item → Meaning) → ℕ → ℕ → Bool
has_type marks f n = tells_type (marks (item s.Placed f n))

abbrev pub has_owner : (Item → Meaning) → ℕ → Node → Bool
has_owner marks f node = option_map_or (has_type marks f) (part node 0) false

-- a selector that may select a method
abbrev pub selects : (Item → Meaning) → ℕ → Node → Bool
selects marks f node = is_selector node.kind && has_owner marks f node

abbrev pub may_select : Unit → (Item → Meaning) → NodeRef → Bool
may_select u marks at = option_map_or (selects marks at.file) (node_at u at) false

abbrev pub leads_on : Unit → (Item → Meaning) → (NodeRef → Bool) → NodeRef → Bool
leads_on u marks named at = option_map_or named (reference_at u marks at) false || may_select u marks at

-- ---- in declarations of variables

-- the node, or what it holds
abbrev pub IsIn : List Node → ℕ → ℕ → Type 0
IsIn nodes n m = (m ≡ n) ⊎ Holds nodes n m

-- m is in the node and leads on
abbrev pub LeadsIn : Unit → (Item → Meaning) → (NodeRef → Bool) → ℕ → List Node → ℕ → ℕ → Type 0
LeadsIn u marks named f nodes n m = IsIn nodes n m × (leads_on u marks named (place f m) ≡ true)

abbrev pub is_vars : NodeKind → Bool
is_vars k.Var = true
is_vars k.VarGroup = true
is_vars _ = false

-- the node n declares variables, and m leads on in it
abbrev pub LeadsInVars : Unit → (Item → Meaning) → (NodeRef → Bool) → ℕ → List Node → ℕ → ℕ → Type 0
LeadsInVars u marks named f nodes n m = (node : Node) × (slice_get nodes n ≡ Some node) × (is_vars node.kind ≡ true) × LeadsIn u marks named f nodes n m

-- m leads on in a declaration of variables of a file, the i-th of its declarations
abbrev pub LeadsInTop : Unit → (Item → Meaning) → (NodeRef → Bool) → ℕ → FileTree → ℕ → ℕ → Type 0
LeadsInTop u marks named f tree i m = (n : ℕ) × (slice_get tree.tops i ≡ Some n) × LeadsInVars u marks named f tree.nodes n m

-- m leads on in a declaration of variables of the file f
abbrev pub LeadsInFile : Unit → (Item → Meaning) → (NodeRef → Bool) → ℕ → ℕ → Type 0
LeadsInFile u marks named f m = (tree : FileTree) × (slice_get u.trees f ≡ Some tree) × (i : ℕ) × LeadsInTop u marks named f tree i m
