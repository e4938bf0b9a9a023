-- What is tested late of the types that a type expression is made of (Go 1.17, "Map types", "Struct types"). It stands beside the mark of the type,
-- as an object's mark stands beside that of its name, and nothing asks for it.
use Rattle.std.specs.Prelude.{ℕ, ◌==◌, Bool, true, false, not, if◌then◌else◌, Option}
use Rattle.std.specs.Option.{option_map_or}
use Rattle.go_tree.specs.declared.tree.Node.{Node}
use Rattle.go_tree.specs.declared.tree.NodeKind.{NodeKind}
use Rattle.go_tree.specs.declared.tree.NodeKind.TheVariants as k
use Rattle.go_tree.specs.declared.tree.NodeRef.{NodeRef}
use Rattle.package_objects.specs.Declares.{part}
use Rattle.type_model.specs.GoTypes.{GoType, BasicType, DefinedType, PointerTo, SliceOf, ArrayOf, MapOf, ChanOf, FuncOf, StructOf, InterfaceOf}
use Rattle.type_questions.specs.Questions.{IsComparable}
use Rattle.mark_walk.specs.Asks.{done, put, bind}
use Rattle.typed_marks.specs.declared.item.Stage.TheVariants as s
use Rattle.typed_marks.specs.Meanings.{Known, Meaning, Quiet}
use Rattle.unit_read.specs.declared.place.Place.{Place}
use Rattle.unit_read.specs.Units.{Unit, node_at}
use Rattle.rule_words.specs.Asking.{Rule, mark_ask, under_ask}
use Rattle.rule_words.specs.Putting.{held}
use Rattle.rule_words.specs.Words.{test, need_type}
use Rattle.typed_tree.specs.declared.rule.TheConstants.{BAD_MAP_KEY, BAD_EMBEDDED_TYPE}
use Rattle.rule_words.specs.Good.{given}

-- ---- the key of a map

-- "The comparison operators == and != must be fully defined for operands of the key type"
abbrev pub key_of : Known → Rule
key_of x = put (IsComparable x.of) (held Quiet BAD_MAP_KEY)

abbrev pub key_mark : Meaning → Rule
key_mark m = given m key_of

-- E12, of a type in the place of a key
abbrev pub key_rule : Unit → NodeRef → Rule
key_rule u at = bind (mark_ask u s.Placed at.file at.node) key_mark

-- what stands in a map type: its key, or its element
abbrev pub map_part : Unit → NodeRef → Place → Rule
map_part u at p = if p.slot == 0 then key_rule u at else done Quiet

-- ---- an embedded field

-- "as a type name T or as a pointer to a non-interface type name *T, and T itself may not be a pointer type"
abbrev pub may_be_embedded : Bool → GoType → Bool
may_be_embedded behind (BasicType kind) = true
may_be_embedded behind (DefinedType name) = true
may_be_embedded behind (PointerTo of) = false
may_be_embedded behind (SliceOf of) = true
may_be_embedded behind (ArrayOf size of) = true
may_be_embedded behind (MapOf key of) = true
may_be_embedded behind (ChanOf direction of) = true
may_be_embedded behind (FuncOf of) = true
may_be_embedded behind (StructOf fields) = true
may_be_embedded behind (InterfaceOf methods) = not behind

abbrev pub embedded_under : Bool → GoType → Rule
embedded_under behind under = test (may_be_embedded behind under) BAD_EMBEDDED_TYPE (done Quiet)

abbrev pub embedded_known : Bool → Option GoType → Rule
embedded_known behind under = need_type under (embedded_under behind)

abbrev pub embedded_of : Unit → Bool → Known → Rule
embedded_of u behind x = bind (under_ask u x.of) (embedded_known behind)

abbrev pub embedded_mark : Unit → Bool → Meaning → Rule
embedded_mark u behind m = given m (embedded_of u behind)

abbrev pub embedded_ask : Unit → ℕ → Bool → ℕ → Rule
embedded_ask u file behind n = bind (mark_ask u s.Placed file n) (embedded_mark u behind)

-- E13, of an embedded field
abbrev pub embedded_rule : Unit → ℕ → Bool → Node → Rule
embedded_rule u file behind node = option_map_or (embedded_ask u file behind) (part node 0) (done Quiet)

abbrev pub member_by : Unit → ℕ → NodeKind → Node → Rule
member_by u file k.Embedded node = embedded_rule u file false node
member_by u file k.EmbeddedPointer node = embedded_rule u file true node
member_by u file _ node = done Quiet

abbrev pub member_of_kind : Unit → ℕ → Node → Rule
member_of_kind u file node = member_by u file node.kind node

-- what stands in a struct type
abbrev pub member_part : Unit → NodeRef → Rule
member_part u at = option_map_or (member_of_kind u at.file) (node_at u at) (done Quiet)
