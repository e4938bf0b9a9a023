-- Address operators (Go 1.17, "Address operators", "Pointer types").
use Rattle.std.specs.Prelude.{ℕ, zero, suc, Bool, true, false, ◌||◌, if◌then◌else◌, List, Option, Some, None, slice_get}
use Rattle.std.specs.Option.{option_map_or}
use Rattle.go_tree.specs.declared.tree.Node.{Node}
use Rattle.go_tree.specs.declared.tree.NodeKind.{NodeKind}
use Rattle.go_tree.specs.declared.tree.NodeKind.TheVariants as k
use Rattle.mark_walk.specs.Asks.{done, bind}
use Rattle.package_objects.specs.Declares.{part}
use Rattle.type_model.specs.GoTypes.{GoType, PointerTo}
use Rattle.typed_tree.specs.Places.{is_type}
use Rattle.typed_tree.specs.declared.mark.Mode.TheVariants as mode
use Rattle.typed_marks.specs.Meanings.{Known, Wrong, Quiet}
use Rattle.unit_read.specs.Units.{Unit}
use Rattle.rule_words.specs.Answers.{typed}
use Rattle.rule_words.specs.Asking.{Rule, under_ask}
use Rattle.rule_words.specs.Parts.{Part}
use Rattle.rule_words.specs.Words.{need, test}
use Rattle.rule_words.specs.Nodes.{is_paren}
use Rattle.typed_tree.specs.declared.rule.TheConstants.{CANNOT_TAKE_ADDRESS, NOT_A_POINTER}
use Rattle.primary_rules.specs.Operands.{is_variable, standing}
use Rattle.primary_rules.specs.Shapes.{Shape, Texts, Slices, Arrays, Maps, Pointers, Channels, Interfaces, Others, shape_of}

-- ---- `*x`

-- E40
abbrev pub indirect_shape : Shape → Rule
indirect_shape (Pointers of) = done (standing mode.Variable of)
indirect_shape Texts = done (Wrong NOT_A_POINTER)
indirect_shape (Slices of) = done (Wrong NOT_A_POINTER)
indirect_shape (Arrays size of) = done (Wrong NOT_A_POINTER)
indirect_shape (Maps key of) = done (Wrong NOT_A_POINTER)
indirect_shape (Channels direction of) = done (Wrong NOT_A_POINTER)
indirect_shape Interfaces = done (Wrong NOT_A_POINTER)
indirect_shape Others = done (Wrong NOT_A_POINTER)

abbrev pub indirect_under : Option GoType → Rule
indirect_under None = done Quiet
indirect_under (Some under) = indirect_shape (shape_of under)

unfoldable pub indirect : Unit → Known → Rule
indirect u x = bind (under_ask u x.last) indirect_under

-- before a type it is a pointer type
abbrev pub star_of : Unit → Known → Rule
star_of u x = if is_type x.mode then done (typed mode.TypeName (PointerTo x.of)) else indirect u x

unfoldable pub star_rule : Unit → Part → Rule
star_rule u p = need p.mark (star_of u)

-- ---- `&x`

abbrev pub is_composite : NodeKind → Bool
is_composite k.Composite = true
is_composite _ = false

abbrev pub passes : (NodeKind → Bool) → List Node → ℕ → Bool
passes test nodes n = option_map_or (λ (node : Node). test node.kind) (slice_get nodes n) false

-- a composite literal, parentheses aside; what stands between parentheses comes directly before them
abbrev pub is_literal : List Node → ℕ → Bool
is_literal nodes zero = passes is_composite nodes zero
is_literal nodes (suc n) = if passes is_paren nodes (suc n) then is_literal nodes n else passes is_composite nodes (suc n)

abbrev pub part_is_literal : List Node → Node → Bool
part_is_literal nodes node = option_map_or (is_literal nodes) (part node 0) false

-- E39: "x must be addressable, that is, either a variable, pointer indirection, or slice indexing operation; or a field selector of an
-- addressable struct operand; or an array indexing operation of an addressable array"; or a composite literal
abbrev pub address_of : Bool → Known → Rule
address_of literal x = test (is_variable x.mode || literal) CANNOT_TAKE_ADDRESS (done (typed mode.Value (PointerTo x.of)))

unfoldable pub address_rule : List Node → Node → Part → Rule
address_rule nodes node p = need p.mark (address_of (part_is_literal nodes node))
