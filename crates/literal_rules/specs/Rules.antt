-- The rule of each node of a composite literal (Go 1.17, "Composite literals").
use Rattle.std.specs.Prelude.{ℕ, Bool, if◌then◌else◌, List, Option, Some, None, slice_get}
use Rattle.std.specs.Option.{option_map_or}
use Rattle.go_tree.specs.declared.tree.Node.{Node}
use Rattle.go_tree.specs.declared.tree.NodeRef.{NodeRef}
use Rattle.object_order.specs.Spots.{place}
use Rattle.package_objects.specs.Declares.{part}
use Rattle.mark_walk.specs.Asks.{done, bind}
use Rattle.type_model.specs.GoTypes.{GoType, ArrayOf}
use Rattle.type_model.specs.Parts.{GoField}
use Rattle.typed_tree.specs.declared.mark.Mode.TheVariants as mode
use Rattle.typed_tree.specs.declared.rule.Rule.{Rule as RuleNumber}
use Rattle.typed_marks.specs.declared.item.Stage.TheVariants as s
use Rattle.typed_marks.specs.Meanings.{Known, Meaning, Right, Wrong, Quiet}
use Rattle.unit_read.specs.declared.place.Place.{Place}
use Rattle.unit_read.specs.Units.{Unit, nodes_at, node_at, place_at}
use Rattle.rule_words.specs.Answers.{typed}
use Rattle.rule_words.specs.Asking.{Rule, mark_ask}
use Rattle.rule_words.specs.Parts.{Part}
use Rattle.rule_words.specs.Words.{Wanted, need, nothing}
use Rattle.literal_rules.specs.declared.forms.Form.{Form}
use Rattle.literal_rules.specs.declared.forms.Form.TheVariants as f
use Rattle.typed_tree.specs.declared.rule.TheConstants.{BAD_LITERAL_TYPE}
use Rattle.literal_rules.specs.Forms.{form_of, is_composite}
use Rattle.literal_rules.specs.Items.{keys_ask, has_bad}
use Rattle.literal_rules.specs.Maps.{map_fault}
use Rattle.literal_rules.specs.Rows.{row_fault, positions, end_of}
use Rattle.literal_rules.specs.Shapes.{Shape, Fields, Row, Table, Other, Literal, braces_ask}
use Rattle.literal_rules.specs.Structs.{struct_fault}

-- ---- marks

abbrev pub value_of : GoType → Meaning
value_of of = Right (record { mode = mode.Value; of = of; value = None; last = of })

abbrev pub type_of : GoType → Meaning
type_of of = Right (record { mode = mode.TypeName; of = of; value = None; last = of })

-- a literal of a type
abbrev pub made : Option GoType → Meaning
made of = option_map_or value_of of Quiet

-- `[...]T` with as many elements
abbrev pub sized : ℕ → GoType → Option GoType → Meaning
sized count e None = typed mode.Value (ArrayOf count e)
sized count e (Some of) = value_of of

abbrev pub unless : Option RuleNumber → Meaning → Meaning
unless None rest = rest
unless (Some rule) rest = Wrong rule

-- ---- by shape

abbrev pub struct_mark : Unit → ℕ → Option GoType → List GoField → List Node → Node → Meaning
struct_mark u file of fields nodes v = unless (struct_fault u file fields nodes v) (made of)

abbrev pub placed_mark : Option GoType → GoType → ℕ → List (Option ℕ) → Meaning
placed_mark of e limit places = unless (row_fault limit places) (sized (end_of places) e of)

-- nothing is said of a literal whose keys aren't good
abbrev pub row_mark : Option GoType → GoType → ℕ → List (Option Meaning) → Meaning
row_mark of e limit keys = if has_bad keys then Quiet else placed_mark of e limit (positions keys)

abbrev pub row_by : Option GoType → GoType → ℕ → List (Option Meaning) → Rule
row_by of e limit keys = done (row_mark of e limit keys)

abbrev pub map_mark : Option GoType → List (Option Meaning) → Meaning
map_mark of keys = if has_bad keys then Quiet else unless (map_fault keys) (made of)

abbrev pub map_by : Option GoType → List (Option Meaning) → Rule
map_by of keys = done (map_mark of keys)

abbrev pub shape_rule : Unit → ℕ → ℕ → Node → Option GoType → Shape → Rule
shape_rule u block file v of (Fields fields) = done (struct_mark u file of fields (nodes_at u file) v)
shape_rule u block file v of (Row e limit) = bind (keys_ask u block (nodes_at u file) v.parts) (row_by of e limit)
shape_rule u block file v of (Table key e) = bind (keys_ask u block (nodes_at u file) v.parts) (map_by of)
shape_rule u block file v of Other = done (Wrong BAD_LITERAL_TYPE)

-- ---- literals

abbrev pub literal_told : Unit → ℕ → ℕ → Node → Option Literal → Rule
literal_told u block file v None = done Quiet
literal_told u block file v (Some l) = shape_rule u block file v l.of l.shape

-- E60, then by the type: E61 to E64 and E67 of a struct; E63, E66 and E43 of an array or a slice; E63 and E65 of a map
abbrev pub braces_rule : Unit → ℕ → NodeRef → Node → Rule
braces_rule u block at v = bind (braces_ask u block at) (literal_told u block at.file v)

-- the braces behind a type
abbrev pub braces_at : Unit → ℕ → ℕ → ℕ → Rule
braces_at u block file n = option_map_or (braces_rule u block (place file n)) (slice_get (nodes_at u file) n) (done Quiet)

abbrev pub composite_rule : Unit → ℕ → ℕ → Node → Rule
composite_rule u block file node = option_map_or (braces_at u block file) (part node 1) (done Quiet)

-- ---- braces: behind a type they are a part of the literal, elsewhere a literal of their own

abbrev pub own_rule : Unit → ℕ → NodeRef → Node → Node → Rule
own_rule u block at v around = if is_composite around.kind then done nothing else braces_rule u block at v

abbrev pub inner_in : Unit → ℕ → NodeRef → Node → Place → Rule
inner_in u block at v p = option_map_or (own_rule u block at v) (node_at u (place at.file p.around)) (done Quiet)

abbrev pub inner_rule : Unit → ℕ → NodeRef → Node → Rule
inner_rule u block at v = option_map_or (inner_in u block at v) (place_at u at) (done Quiet)

-- ---- `[...]T` is the type of its literal

abbrev pub type_told : Meaning → Rule
type_told m = need m (λ x. done (type_of x.of))

abbrev pub dots_in : Unit → ℕ → Place → Rule
dots_in u block p = bind (mark_ask u s.Before block p.around) type_told

abbrev pub dots_rule : Unit → ℕ → NodeRef → Rule
dots_rule u block at = option_map_or (dots_in u block) (place_at u at) (done Quiet)

-- ---- all

abbrev pub form_rule : Unit → ℕ → NodeRef → Node → Form → Rule
form_rule u block at node f.Composite = composite_rule u block at.file node
form_rule u block at node f.Braces = inner_rule u block at node
form_rule u block at node f.Pair = done nothing
form_rule u block at node f.Dots = dots_rule u block at
form_rule u block at node f.Other = done Quiet

-- The rule of a node of a composite literal.
abbrev pub literal_rule : Unit → ℕ → NodeRef → Node → List Part → Wanted → Rule
literal_rule u block at node ps w = form_rule u block at node (form_of node.kind)
