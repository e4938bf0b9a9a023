-- Which type a literal has, and what that makes of its elements (Go 1.17, "Composite literals": "The LiteralType's underlying type must be a struct, array, slice, or map
-- type").
use Rattle.std.specs.Prelude.{ℕ, Bool, if◌then◌else◌, List, Option, Some, None, option_map, slice_get}
use Rattle.std.specs.Option.{option_map_or}
use Rattle.go_tree.specs.declared.tree.Node.{Node}
use Rattle.go_tree.specs.declared.tree.NodeRef.{NodeRef}
use Rattle.object_order.specs.Spots.{place}
use Rattle.package_objects.specs.Declares.{part}
use Rattle.mark_walk.specs.Asks.{done, bind}
use Rattle.type_model.specs.GoTypes.{GoType, BasicType, DefinedType, PointerTo, SliceOf, ArrayOf, MapOf, ChanOf, FuncOf, StructOf, InterfaceOf}
use Rattle.type_model.specs.Parts.{GoField, field_list}
use Rattle.typed_tree.specs.declared.place.Want.{Want as Demand}
use Rattle.typed_tree.specs.declared.place.Want.TheVariants as demand
use Rattle.typed_marks.specs.declared.item.Stage.TheVariants as s
use Rattle.typed_marks.specs.Meanings.{Known, Wish, Free, Takes, Fits, Assigned, Meaning}
use Rattle.unit_read.specs.declared.place.Place.{Place}
use Rattle.unit_read.specs.Units.{Unit, nodes_at, node_at, place_at}
use Rattle.rule_words.specs.Asking.{Asks, mark_ask, under_ask}
use Rattle.rule_words.specs.Good.{known_told}
use Rattle.rule_words.specs.Words.{wanted_in}
use Rattle.literal_rules.specs.Forms.{is_composite, is_dots}

-- Fields in their order; elements of a type, whose indices are below a limit; elements of a type by keys of another; or no literal has such a type.
pub data Shape : Type 0 where
  Fields : List GoField → Shape
  Row : GoType → ℕ → Shape
  Table : GoType → GoType → Shape
  Other : Shape

-- the indices of a slice are representable by `int`
abbrev pub slice_limit : ℕ
slice_limit = 9223372036854775808

-- where the length of an array comes of its elements, that length is
abbrev pub open_limit : ℕ
open_limit = 9223372036854775807

-- by the underlying type
abbrev pub shape_of : GoType → Shape
shape_of (BasicType kind) = Other
shape_of (DefinedType name) = Other
shape_of (PointerTo of) = Other
shape_of (SliceOf of) = Row of slice_limit
shape_of (ArrayOf size of) = Row of size
shape_of (MapOf key of) = Table key of
shape_of (ChanOf direction of) = Other
shape_of (FuncOf of) = Other
shape_of (StructOf fields) = Fields (field_list fields)
shape_of (InterfaceOf methods) = Other

-- the type of a literal, None where its length comes of its elements; and what that makes of them
pub record Literal : Type 0 where
  pub of : Option GoType
  pub shape : Shape

-- ---- a type that is written

abbrev pub literal_of : GoType → GoType → Literal
literal_of of under = record { of = Some of; shape = shape_of under }

abbrev pub literal_told : GoType → Option GoType → Asks (Option Literal)
literal_told of under = done (option_map (literal_of of) under)

-- a literal of a type, by the underlying type of another: itself, or that to which it points
abbrev pub literal_ask : Unit → GoType → GoType → Asks (Option Literal)
literal_ask u of base = bind (under_ask u base) (literal_told of)

abbrev pub written_of : Unit → Known → Asks (Option Literal)
written_of u x = literal_ask u x.of x.of

abbrev pub written_told : Unit → Meaning → Asks (Option Literal)
written_told u m = option_map_or (written_of u) (known_told m) (done None)

abbrev pub written_ask : Unit → ℕ → ℕ → Asks (Option Literal)
written_ask u block t = bind (mark_ask u s.Placed block t) (written_told u)

-- "The notation ... specifies an array length equal to the maximum element index plus one"
abbrev pub open_of : Known → Literal
open_of x = record { of = None; shape = Row x.of open_limit }

abbrev pub open_told : Meaning → Asks (Option Literal)
open_told m = done (option_map open_of (known_told m))

abbrev pub open_ask : Unit → ℕ → ℕ → Asks (Option Literal)
open_ask u block e = bind (mark_ask u s.Placed block e) open_told

abbrev pub dots_ask : Unit → ℕ → Node → Asks (Option Literal)
dots_ask u block node = option_map_or (open_ask u block) (part node 0) (done None)

abbrev pub type_ask : Unit → ℕ → ℕ → Node → Asks (Option Literal)
type_ask u block t node = if is_dots node.kind then dots_ask u block node else written_ask u block t

abbrev pub type_at_ask : Unit → ℕ → List Node → ℕ → Asks (Option Literal)
type_at_ask u block nodes t = option_map_or (type_ask u block t) (slice_get nodes t) (done None)

abbrev pub composite_ask : Unit → ℕ → List Node → Node → Asks (Option Literal)
composite_ask u block nodes around = option_map_or (type_at_ask u block nodes) (part around 0) (done None)

-- ---- a type that is left out

-- "elements or map keys that are themselves composite literals may elide the respective literal type if it is identical to the element or key type", and "that are
-- addresses of composite literals may elide the &T when the element or key type is *T"
abbrev pub elided_by : Unit → GoType → GoType → Asks (Option Literal)
elided_by u of (BasicType kind) = done (Some (literal_of of (BasicType kind)))
elided_by u of (DefinedType name) = done (Some (literal_of of (DefinedType name)))
elided_by u of (PointerTo base) = literal_ask u of base
elided_by u of (SliceOf e) = done (Some (literal_of of (SliceOf e)))
elided_by u of (ArrayOf size e) = done (Some (literal_of of (ArrayOf size e)))
elided_by u of (MapOf key e) = done (Some (literal_of of (MapOf key e)))
elided_by u of (ChanOf direction e) = done (Some (literal_of of (ChanOf direction e)))
elided_by u of (FuncOf signature) = done (Some (literal_of of (FuncOf signature)))
elided_by u of (StructOf fields) = done (Some (literal_of of (StructOf fields)))
elided_by u of (InterfaceOf methods) = done (Some (literal_of of (InterfaceOf methods)))

abbrev pub elided_told : Unit → GoType → Option GoType → Asks (Option Literal)
elided_told u of None = done None
elided_told u of (Some under) = elided_by u of under

abbrev pub elided_ask : Unit → GoType → Asks (Option Literal)
elided_ask u of = bind (under_ask u of) (elided_told u of)

-- a literal that has a type of its own left out, in a place of which none is known
abbrev pub no_literal : Literal
no_literal = record { of = None; shape = Other }

-- A place that wants a value but no type leaves none out; where nothing is wanted nothing is known.
abbrev pub bare : Demand → Option Literal
bare demand.Operand = Some no_literal
bare demand.Count = Some no_literal
bare demand.Constant = Some no_literal
bare demand.Owner = Some no_literal
bare demand.Nothing = None
bare demand.Inside = None
bare demand.Type = None
bare demand.Case = None

abbrev pub inner_by : Unit → Demand → Wish → Asks (Option Literal)
inner_by u demand Free = done (bare demand)
inner_by u demand (Takes to) = elided_ask u to
inner_by u demand (Fits to) = elided_ask u to
inner_by u demand (Assigned to) = elided_ask u to

abbrev pub inner_told : Unit → Meaning → Asks (Option Literal)
inner_told u m = inner_by u (wanted_in m).demand (wanted_in m).wish

abbrev pub inner_ask : Unit → ℕ → ℕ → Asks (Option Literal)
inner_ask u block n = bind (mark_ask u s.Wanted block n) (inner_told u)

-- ---- braces, by where they stand

abbrev pub braces_around : Unit → ℕ → NodeRef → Node → Asks (Option Literal)
braces_around u block at around = if is_composite around.kind then composite_ask u block (nodes_at u at.file) around else inner_ask u block at.node

abbrev pub braces_in : Unit → ℕ → NodeRef → Place → Asks (Option Literal)
braces_in u block at p = option_map_or (braces_around u block at) (node_at u (place at.file p.around)) (done None)

-- The literal whose braces stand here; None where its type isn't known.
abbrev pub braces_ask : Unit → ℕ → NodeRef → Asks (Option Literal)
braces_ask u block at = option_map_or (braces_in u block at) (place_at u at) (done None)
