-- What a defined type is declared with (Go 1.17, "Type declarations").
use Rattle.std.specs.Prelude.{◌≡◌, ℕ, ◌&&◌, Bool, true, false, not, if◌then◌else◌, List, Option, None, option_and_then}
use Rattle.go_tree.specs.declared.tree.Node.{Node}
use Rattle.go_tree.specs.declared.tree.NodeRef.{NodeRef}
use Rattle.object_order.specs.Spots.{place}
use Rattle.package_objects.specs.Declares.{part}
use Rattle.type_model.specs.declared.term.TypeId.{TypeId}
use Rattle.type_model.specs.declared.term.TypeName.{TypeName}
use Rattle.type_model.specs.Parts.{GoMethod}
use Rattle.type_model.specs.GoTypes.{GoType, BasicType, DefinedType, PointerTo, SliceOf, ArrayOf, MapOf, ChanOf, FuncOf, StructOf, InterfaceOf, is_defined}
use Rattle.type_model.specs.Tables.{is_same_name}
use Rattle.type_questions.specs.Judging.{IsItemOf}
use Rattle.type_questions.specs.Questions.{IsComparable}
use Rattle.mark_walk.specs.Asks.{done, put, bind}
use Rattle.typed_marks.specs.declared.item.Stage.TheVariants as s
use Rattle.typed_marks.specs.declared.state.State.{State}
use Rattle.typed_marks.specs.Meanings.{Known, Meaning, Quiet}
use Rattle.typed_tree.specs.Universe.{error_name}
use Rattle.unit_read.specs.declared.place.Place.{Place}
use Rattle.unit_read.specs.Units.{Unit, node_at, place_at, is_this, is_among, defined, type_node, base_of}
use Rattle.rule_words.specs.declared.declaring.Declaring.{Declaring}
use Rattle.rule_words.specs.Asking.{Rule, item, mark_ask, under_ask, type_item}
use Rattle.rule_words.specs.Declaring.{declares, IsDeclaringAt}
use Rattle.rule_words.specs.Scenes.{type_in, IsTypeOf}
use Rattle.rule_words.specs.Words.{need_type}
use Rattle.rule_words.specs.Good.{given}
use Rattle.decl_rules.specs.Methods.{methods_ask, all_of}
use Rattle.decl_rules.specs.Objects.{placed_ask}

-- ---- the type of a name

-- the predeclared type `error`, which no package declares
abbrev pub is_error : TypeName → Bool
is_error n = is_same_name n error_name

-- whether the type of this name is declared at this node: of those of one name the first is
abbrev pub is_here : Unit → NodeRef → TypeName → Bool
is_here u at n = not (is_error n) && is_this at (type_node u n)

abbrev pub is_of_node : Unit → NodeRef → GoType → Bool
is_of_node u at (BasicType kind) = false
is_of_node u at (DefinedType name) = is_here u at name
is_of_node u at (PointerTo of) = false
is_of_node u at (SliceOf of) = false
is_of_node u at (ArrayOf size of) = false
is_of_node u at (MapOf key of) = false
is_of_node u at (ChanOf direction of) = false
is_of_node u at (FuncOf of) = false
is_of_node u at (StructOf fields) = false
is_of_node u at (InterfaceOf methods) = false

-- ---- the type behind the name

-- the type expression behind the name of a type
abbrev pub written_in : Unit → ℕ → Place → Option ℕ
written_in u file p = option_and_then (λ (node : Node). part node 1) (node_at u (place file p.around))

abbrev pub written_type : Unit → NodeRef → Option ℕ
written_type u name = option_and_then (written_in u name.file) (place_at u name)

-- it is declared once all that it holds is, so that no type holds itself, with the methods in its set
abbrev pub with_methods : GoType → List GoMethod → Rule
with_methods under methods = put (IsComparable under) (declares (record { under = under; methods = methods }))

abbrev pub declared_with : Unit → NodeRef → GoType → Rule
declared_with u name under = if is_defined under then done Quiet else bind (methods_ask u under name) (λ xss. with_methods under (all_of xss))

abbrev pub declaring : Unit → NodeRef → Option GoType → Rule
declaring u name under = need_type under (declared_with u name)

-- "a new, distinct type with the same underlying type" as the given one
abbrev pub underlying_rule : Unit → NodeRef → Known → Rule
underlying_rule u name x = bind (under_ask u x.of) (λ under. declaring u name under)

abbrev pub written_rule : Unit → NodeRef → Meaning → Rule
written_rule u name m = given m (λ x. underlying_rule u name x)

abbrev pub named_rule : Unit → NodeRef → Rule
named_rule u name = placed_ask u name.file (written_type u name) (written_rule u name)

-- ---- all

abbrev pub known_rule : Unit → NodeRef → Known → Rule
known_rule u name x = if is_of_node u name x.of then named_rule u name else done Quiet

-- a type that is refused or cyclic is declared by nothing
abbrev pub own_rule : Unit → NodeRef → Meaning → Rule
own_rule u name m = given m (λ x. known_rule u name x)

abbrev pub type_rule : Unit → NodeRef → Rule
type_rule u name = bind (mark_ask u s.Object name.file name.node) (λ m. own_rule u name m)

-- What the defined type is declared with whose name stands here.
abbrev pub under_rule : Unit → NodeRef → Rule
under_rule u name = if is_among name (defined u) then type_rule u name else done Quiet

-- ---- in code

-- the number is that of the defined type that is declared at a node
pub record IsTypeAt (u : Unit) (state : State) (at : NodeRef) (of : TypeId) : Type 0 where
  pub name : TypeName
  pub within : IsTypeOf state of
  pub named : type_in state of ≡ DefinedType name
  pub own : IsItemOf (type_item u) name (item s.Under at.file at.node)
  pub base : base_of u name ≡ None

-- wherever the type of this number is declared, it is so
abbrev pub IsDeclaringOf : Unit → State → TypeId → Declaring → Type 0
IsDeclaringOf u state of declaring = (at : NodeRef) → IsTypeAt u state at of → IsDeclaringAt u state (item s.Under at.file at.node) declaring
