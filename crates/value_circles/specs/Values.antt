-- The variables of the package block that have initial values, and the expression that gives each its value (Go 1.17, "Variable declarations":
-- "If a list of expressions is given, the variables are initialized with the expressions following the rules for assignments").
use Rattle.std.specs.Prelude.{ℕ, Bool, true, false, if◌then◌else◌, List, [], ◌∷◌, length, Option, Some, None, slice_get}
use Rattle.std.specs.List.{cons_option}
use Rattle.std.specs.Option.{option_map_or}
use Rattle.go_tree.specs.declared.tree.FileTree.{FileTree}
use Rattle.go_tree.specs.declared.tree.Node.{Node}
use Rattle.go_tree.specs.declared.tree.NodeKind.{NodeKind}
use Rattle.go_tree.specs.declared.tree.NodeKind.TheVariants as k
use Rattle.object_order.specs.declared.spot.Entry.{Entry}
use Rattle.object_order.specs.declared.spot.Form.TheVariants as form
use Rattle.object_order.specs.declared.spot.Role.TheVariants as role
use Rattle.object_order.specs.declared.spot.Root.{Root}
use Rattle.object_order.specs.Spots.{place}
use Rattle.package_objects.specs.Declares.{gather, items, part, rooted, value_place}

-- a declaration of variables
abbrev pub is_vars : NodeKind → Bool
is_vars k.Var = true
is_vars k.VarGroup = true
is_vars _ = false

-- in which slot the values of a specification stand: behind the names, or behind the names and the type
abbrev pub value_slot : NodeKind → Option ℕ
value_slot k.VarValues = Some 1
value_slot k.VarTypedValues = Some 2
value_slot _ = None

-- the expression that gives the value of the name at a place: the only one, which may give several values, else the one at that place
abbrev pub value_of : List Node → Option ℕ → ℕ → Option ℕ
value_of nodes values i = slice_get (items nodes values) (value_place true (length (items nodes values)) i)

-- what an initial value is made of; the type of the variable is no part of it
abbrev pub roots : List Node → Option ℕ → ℕ → List Root
roots nodes values i = cons_option (rooted role.Resting (value_of nodes values i)) []

abbrev pub valued_entry : ℕ → List Node → Option ℕ → ℕ → ℕ → Entry
valued_entry file nodes values i n = record { name = place file n; form = form.Other; roots = roots nodes values i }

-- the name at a place of a specification
abbrev pub nth_entry : ℕ → List Node → Node → Option ℕ → ℕ → List Entry
nth_entry file nodes spec values i = option_map_or (λ n. valued_entry file nodes values i n ∷ []) (slice_get (items nodes (part spec 0)) i) []

abbrev pub valued : ℕ → List Node → Node → ℕ → List Entry
valued file nodes spec slot = gather (nth_entry file nodes spec (part spec slot)) (length (items nodes (part spec 0)))

-- the names of a specification, where it has values
abbrev pub spec_entries : ℕ → List Node → Node → List Entry
spec_entries file nodes spec = option_map_or (valued file nodes spec) (value_slot spec.kind) []

abbrev pub spec_at : ℕ → List Node → ℕ → List Entry
spec_at file nodes n = option_map_or (spec_entries file nodes) (slice_get nodes n) []

abbrev pub nth_spec : ℕ → List Node → Node → ℕ → List Entry
nth_spec file nodes node i = option_map_or (spec_at file nodes) (part node i) []

abbrev pub specs_of : ℕ → List Node → Node → List Entry
specs_of file nodes node = if is_vars node.kind then gather (nth_spec file nodes node) (length node.parts) else []

-- ---- the declarations of the package block

abbrev pub top_entries : ℕ → List Node → ℕ → List Entry
top_entries file nodes n = option_map_or (specs_of file nodes) (slice_get nodes n) []

abbrev pub nth_top : ℕ → FileTree → ℕ → List Entry
nth_top file tree i = option_map_or (top_entries file tree.nodes) (slice_get tree.tops i) []

abbrev pub tree_entries : ℕ → FileTree → List Entry
tree_entries file tree = gather (nth_top file tree) (length tree.tops)

abbrev pub file_entries : List FileTree → ℕ → List Entry
file_entries trees file = option_map_or (tree_entries file) (slice_get trees file) []

-- The variables of the package block with values, in order of file and place.
abbrev pub value_entries : List FileTree → List Entry
value_entries trees = gather (file_entries trees) (length trees)
