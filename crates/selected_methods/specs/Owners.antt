-- Of what a selector selects: the type of what stands before its dot (Go 1.17, "Selectors").
use Rattle.std.specs.Prelude.{ℕ, Bool, true, false, List, [], if◌then◌else◌, Option, Some, None, option_and_then}
use Rattle.std.specs.Option.{option_map_or}
use Rattle.go_tree.specs.declared.tree.Node.{Node}
use Rattle.go_tree.specs.declared.tree.NodeKind.{NodeKind}
use Rattle.go_tree.specs.declared.tree.NodeKind.TheVariants as k
use Rattle.go_tree.specs.declared.tree.NodeRef.{NodeRef}
use Rattle.package_objects.specs.Declares.{part}
use Rattle.type_model.specs.GoTypes.{GoType}
use Rattle.typed_tree.specs.Places.{is_package}
use Rattle.typed_marks.specs.declared.item.Item.{Item}
use Rattle.typed_marks.specs.declared.item.Stage.TheVariants as s
use Rattle.typed_marks.specs.Meanings.{Known, Meaning, Right, Wrong, Beyond, Quiet, Wishes, Declares}
use Rattle.unit_read.specs.Units.{Unit, node_at, last_spelled}
use Rattle.rule_words.specs.Asking.{item}

-- ---- words

abbrev pub is_selector : NodeKind → Bool
is_selector k.Selector = true
is_selector _ = false

abbrev pub is_good : Meaning → Bool
is_good (Right x) = true
is_good (Wrong rule) = false
is_good (Beyond limit) = false
is_good Quiet = false
is_good (Wishes demand wish) = false
is_good (Declares d) = false

-- ---- what stands before the dot

-- the type of a value, or the type that it is; a package has none
abbrev pub type_known : Known → Option GoType
type_known x = if is_package x.mode then None else Some x.of

abbrev pub type_told : Meaning → Option GoType
type_told (Right x) = type_known x
type_told (Wrong rule) = None
type_told (Beyond limit) = None
type_told Quiet = None
type_told (Wishes demand wish) = None
type_told (Declares d) = None

abbrev pub judged : (Item → Meaning) → ℕ → ℕ → Meaning
judged marks f n = marks (item s.Judged f n)

-- by the mark that the selector's rule reads
abbrev pub type_placed : (Item → Meaning) → ℕ → ℕ → Option GoType
type_placed marks f n = type_told (marks (item s.Placed f n))

abbrev pub owner_part : (Item → Meaning) → NodeRef → Node → Option GoType
owner_part marks at node = option_and_then (type_placed marks at.file) (part node 0)

-- that of a selector which has no fault itself
abbrev pub owner_good : (Item → Meaning) → NodeRef → Node → Option GoType
owner_good marks at node = if is_good (judged marks at.file at.node) then owner_part marks at node else None

abbrev pub owner_in : (Item → Meaning) → NodeRef → Node → Option GoType
owner_in marks at node = if is_selector node.kind then owner_good marks at node else None

abbrev pub owner_of : Unit → (Item → Meaning) → NodeRef → Option GoType
owner_of u marks at = option_and_then (owner_in marks at) (node_at u at)

-- the name behind the dot
abbrev pub selected_name : Unit → NodeRef → List ℕ
selected_name u at = option_map_or (last_spelled u at.file) (node_at u at) []
