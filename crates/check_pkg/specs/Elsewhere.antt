-- Which nodes name struct types of other packages (Go 1.17, "Qualified identifiers", "Types"): a name behind a dot that the package of an
-- import has for a type whose underlying type is a struct, or a pointer to a struct, as what is seen of the packages says. So the keys of
-- their literals are fields: a literal in a literal may leave out a pointer type as well.
use Rattle.std.specs.Prelude.{◌≡◌, ℕ, ◌<◌, ◌&&◌, Bool, true, false, if◌then◌else◌, List, Option, Some, length, option_and_then, slice_get, slice_index_or}
use Rattle.std.specs.Global.{Vec}
use Rattle.std.specs.Option.{option_map_or}
use Rattle.go_tree.specs.declared.tree.FileTree.{FileTree}
use Rattle.go_tree.specs.declared.tree.Node.{Node}
use Rattle.go_tree.specs.declared.tree.NodeKind.{NodeKind}
use Rattle.go_tree.specs.declared.tree.NodeKind.TheVariants as k
use Rattle.go_tree.specs.declared.tree.NodeRef.{NodeRef}
use Rattle.go_tree.specs.declared.bindings.Object.{Object}
use Rattle.object_order.specs.Spots.{place}
use Rattle.type_model.specs.Declarations.{Declarations, under_of}
use Rattle.type_model.specs.GoTypes.{GoType, BasicType, DefinedType, PointerTo, SliceOf, ArrayOf, MapOf, ChanOf, FuncOf, StructOf, InterfaceOf}
use Rattle.typed_tree.specs.Meanings.{Meaning, Right, Known}
use Rattle.typed_tree.specs.declared.mark.Mode.{Mode}
use Rattle.typed_tree.specs.declared.mark.Mode.TheVariants as mode
use Rattle.unit_read.specs.Imports.{exported_of}
use Rattle.unit_read.specs.Units.{Unit, node_at, object_at, last_spelled, base_of}

abbrev pub is_selector : NodeKind → Bool
is_selector k.Selector = true
is_selector _ = false

abbrev pub is_type_name : Mode → Bool
is_type_name mode.TypeName = true
is_type_name _ = false

abbrev pub is_struct : GoType → Bool
is_struct (BasicType kind) = false
is_struct (DefinedType name) = false
is_struct (PointerTo of) = false
is_struct (SliceOf of) = false
is_struct (ArrayOf size of) = false
is_struct (MapOf key of) = false
is_struct (ChanOf direction of) = false
is_struct (FuncOf of) = false
is_struct (StructOf fields) = true
is_struct (InterfaceOf methods) = false

-- its underlying type is a struct
abbrev pub has_fields : Declarations → GoType → Bool
has_fields ds of = option_map_or is_struct (under_of ds of) false

-- the literals of a type have fields for keys: it is a struct, or a pointer to one, which a literal in a literal leaves out
abbrev pub takes_fields : Declarations → GoType → Bool
takes_fields ds (BasicType kind) = false
takes_fields ds (DefinedType name) = false
takes_fields ds (PointerTo of) = has_fields ds of
takes_fields ds (SliceOf of) = false
takes_fields ds (ArrayOf size of) = false
takes_fields ds (MapOf key of) = false
takes_fields ds (ChanOf direction of) = false
takes_fields ds (FuncOf of) = false
takes_fields ds (StructOf fields) = true
takes_fields ds (InterfaceOf methods) = false

abbrev pub has_field_keys : Declarations → GoType → Bool
has_field_keys ds of = option_map_or (takes_fields ds) (under_of ds of) false

abbrev pub names_fields : Declarations → Known → Bool
names_fields ds x = is_type_name x.mode && has_field_keys ds x.of

-- what is used is a type whose literals have fields for keys
abbrev pub is_struct_use : Declarations → Meaning → Bool
is_struct_use ds (Right x) = names_fields ds x
is_struct_use ds _ = false

-- what stands before the dot
abbrev pub owner_at : Unit → NodeRef → Node → Option Object
owner_at u at node = option_and_then (λ n. object_at u (place at.file n)) (slice_get node.parts 0)

-- the package of an import has such a type of this name
abbrev pub exports_struct : Unit → List ℕ → Option Object → Bool
exports_struct u name owner = option_map_or (is_struct_use (base_of u)) (exported_of u name owner) false

abbrev pub names_struct : Unit → NodeRef → Node → Bool
names_struct u at node = if is_selector node.kind then exports_struct u (last_spelled u at.file node) (owner_at u at node) else false

-- the node names a struct type of another package, or a pointer to one
abbrev pub struct_elsewhere : Unit → NodeRef → Bool
struct_elsewhere u at = option_map_or (names_struct u at) (node_at u at) false

-- ---- rows of flags

-- a flag for each of the first few nodes of a file
pub record IsFlagRow (says : ℕ → Bool) (row : List Bool) (count : ℕ) : Type 0 where
  pub size : length row ≡ count
  pub each : (n : ℕ) → n < count → slice_index_or row n false ≡ says n

-- the rows of the first few files
pub record AreFlagRows (says : NodeRef → Bool) (trees : List FileTree) (rows : List (Vec Bool)) (count : ℕ) : Type 0 where
  pub size : length rows ≡ count
  pub each : (f : ℕ) (tree : FileTree) (row : Vec Bool) → slice_get trees f ≡ Some tree → slice_get rows f ≡ Some row
      → IsFlagRow (λ n. says (place f n)) row.items (length tree.nodes)
