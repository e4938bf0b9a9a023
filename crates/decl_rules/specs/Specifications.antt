-- Specifications of constants, and names that are declared (Go 1.17, "Constant declarations", "Struct types", "Interface types").
use Rattle.std.specs.Prelude.{ℕ, ◌==◌, Bool, true, false, not, if◌then◌else◌, List, length, Option}
use Rattle.std.specs.Option.{option_map_or}
use Rattle.go_tree.specs.declared.tree.Node.{Node}
use Rattle.go_tree.specs.declared.tree.NodeRef.{NodeRef}
use Rattle.const_tree.specs.declared.constant.Spec.{Spec}
use Rattle.const_tree.specs.Constants.{names_of, values_of}
use Rattle.type_model.specs.GoTypes.{GoType}
use Rattle.mark_walk.specs.Asks.{done}
use Rattle.typed_tree.specs.Declarations.{has_constants}
use Rattle.unit_read.specs.Units.{Unit, nodes_at, spec_at}
use Rattle.unit_read.specs.Members.{is_repeat}
use Rattle.rule_words.specs.Asking.{Rule}
use Rattle.rule_words.specs.Words.{test, nothing}
use Rattle.typed_tree.specs.declared.rule.TheConstants.{DUPLICATE_MEMBER, BAD_CONSTANT_TYPE, WRONG_NUMBER_OF_VALUES}

-- ---- constants

-- E98: boolean, integer and string types have constants; a type whose underlying type isn't known isn't tested
abbrev pub is_fit : Option GoType → Bool
is_fit under = option_map_or has_constants under true

-- E98, then E99 where names and values differ in number
abbrev pub counted_rule : Bool → List Node → Spec → Rule
counted_rule fit nodes spec =
    test fit BAD_CONSTANT_TYPE (test (length (names_of nodes spec) == length (values_of nodes spec)) WRONG_NUMBER_OF_VALUES (done nothing))

abbrev pub const_rule : Unit → NodeRef → Bool → Rule
const_rule u at fit = option_map_or (counted_rule fit (nodes_at u at.file)) (spec_at u at) (done nothing)

-- ---- members

-- E14 at a name that an earlier field of the struct has
abbrev pub member_rule : Unit → NodeRef → Rule → Rule
member_rule u at rest = test (not (is_repeat u at)) DUPLICATE_MEMBER rest

-- a name that is declared: it is no expression
abbrev pub declared_name_rule : Unit → NodeRef → Rule
declared_name_rule u at = member_rule u at (done nothing)
