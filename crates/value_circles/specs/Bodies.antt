-- The functions and methods of the package block, and of which blocks their bodies are made (Go 1.17, "Package initialization": "x's initialization
-- expression or body (for functions and methods)"); and a package in which what lies in blocks is looked for too.
use Rattle.std.specs.Prelude.{ℕ, Bool, true, false, if◌then◌else◌, List, [], ◌∷◌, length, map, Option, Some, None, slice_get}
use Rattle.std.specs.Option.{option_map_or}
use Rattle.go_tree.specs.declared.tree.FileTree.{FileTree}
use Rattle.go_tree.specs.declared.tree.Node.{Node}
use Rattle.go_tree.specs.declared.tree.NodeKind.{NodeKind}
use Rattle.go_tree.specs.declared.tree.NodeKind.TheVariants as k
use Rattle.object_order.specs.declared.spot.Entry.{Entry}
use Rattle.object_order.specs.declared.spot.Form.TheVariants as form
use Rattle.object_order.specs.declared.spot.Role.TheVariants as role
use Rattle.object_order.specs.declared.spot.Root.{Root}
use Rattle.object_order.specs.Spots.{place, is_block}
use Rattle.package_objects.specs.Declares.{gather, part, kind_at}

-- ---- functions and methods

-- in which slot the name of a function or of a method stands
abbrev pub name_slot : NodeKind → Option ℕ
name_slot k.FuncDecl = Some 0
name_slot k.MethodDecl = Some 1
name_slot _ = None

abbrev pub block_root : List Node → ℕ → List Root
block_root nodes n = if is_block (kind_at nodes n) then record { role = role.Resting; node = n } ∷ [] else []

abbrev pub nth_block : List Node → Node → ℕ → List Root
nth_block nodes node i = option_map_or (block_root nodes) (part node i) []

-- the blocks among the parts of a declaration: the body, if it has one
abbrev pub body_roots : List Node → Node → List Root
body_roots nodes node = gather (nth_block nodes node) (length node.parts)

abbrev pub body_entry : ℕ → List Node → Node → ℕ → Entry
body_entry file nodes node n = record { name = place file n; form = form.Other; roots = body_roots nodes node }

abbrev pub named_body : ℕ → List Node → Node → ℕ → List Entry
named_body file nodes node slot = option_map_or (λ n. body_entry file nodes node n ∷ []) (part node slot) []

abbrev pub body_of : ℕ → List Node → Node → List Entry
body_of file nodes node = option_map_or (named_body file nodes node) (name_slot node.kind) []

abbrev pub body_at : ℕ → List Node → ℕ → List Entry
body_at file nodes n = option_map_or (body_of file nodes) (slice_get nodes n) []

abbrev pub nth_body : ℕ → FileTree → ℕ → List Entry
nth_body file tree i = option_map_or (body_at file tree.nodes) (slice_get tree.tops i) []

abbrev pub tree_bodies : ℕ → FileTree → List Entry
tree_bodies file tree = gather (nth_body file tree) (length tree.tops)

abbrev pub file_bodies : List FileTree → ℕ → List Entry
file_bodies trees file = option_map_or (tree_bodies file) (slice_get trees file) []

-- the functions and methods of the package block, in order of file and place
abbrev pub body_entries : List FileTree → List Entry
body_entries trees = gather (file_bodies trees) (length trees)

-- ---- blocks as lists

-- a block is read as the list of its statements, so that what lies in it is looked for where it is a part: in a function literal, and in a statement
abbrev pub opened_kind : NodeKind → NodeKind
opened_kind k.Block = k.List
opened_kind kind = kind

abbrev pub opened_node : Node → Node
opened_node node = record { kind = opened_kind node.kind; first = node.first; last = node.last; parts = node.parts }

-- the nodes of a tree, without its tokens
abbrev pub opened : FileTree → FileTree
opened tree = record { tokens = []; nodes = map opened_node tree.nodes; tops = tree.tops }

abbrev pub opened_trees : List FileTree → List FileTree
opened_trees trees = map opened trees
