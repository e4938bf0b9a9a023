-- Lists of parameters, and receivers (Go 1.17, "Method declarations").
use Rattle.std.specs.Prelude.{◌==◌, ◌&&◌, Bool, true, false, if◌then◌else◌, bytes_eq, List, length, Option}
use Rattle.std.specs.Option.{option_map_or}
use Rattle.go_tree.specs.declared.tree.Node.{Node}
use Rattle.go_tree.specs.declared.tree.NodeKind.{NodeKind}
use Rattle.go_tree.specs.declared.tree.NodeKind.TheVariants as k
use Rattle.go_tree.specs.declared.tree.NodeRef.{NodeRef}
use Rattle.package_objects.specs.Declares.{part, kind_at}
use Rattle.type_model.specs.GoTypes.{GoType, BasicType, DefinedType, PointerTo, SliceOf, ArrayOf, MapOf, ChanOf, FuncOf, StructOf, InterfaceOf}
use Rattle.mark_walk.specs.Asks.{bind}
use Rattle.typed_marks.specs.Meanings.{Known}
use Rattle.unit_read.specs.declared.place.Place.{Place}
use Rattle.unit_read.specs.Units.{Unit, nodes_at, place_at}
use Rattle.rule_words.specs.Asking.{Rule, under_ask}
use Rattle.rule_words.specs.Parts.{Part, part_at}
use Rattle.rule_words.specs.Words.{need_type, test}
use Rattle.typed_tree.specs.declared.rule.TheConstants.{BAD_RECEIVER}
use Rattle.rule_words.specs.Good.{given}
use Rattle.type_rules.specs.Signatures.{entry_count_at, params_rule}

-- the type itself, or that to which it points
abbrev pub receiver_base : GoType → GoType
receiver_base (BasicType kind) = BasicType kind
receiver_base (DefinedType name) = DefinedType name
receiver_base (PointerTo of) = of
receiver_base (SliceOf of) = SliceOf of
receiver_base (ArrayOf size of) = ArrayOf size of
receiver_base (MapOf key of) = MapOf key of
receiver_base (ChanOf direction of) = ChanOf direction of
receiver_base (FuncOf of) = FuncOf of
receiver_base (StructOf fields) = StructOf fields
receiver_base (InterfaceOf methods) = InterfaceOf methods

-- "a type T that is defined in the same package as the method"
abbrev pub is_own : Unit → GoType → Bool
is_own u (BasicType kind) = false
is_own u (DefinedType name) = bytes_eq u.path name.package
is_own u (PointerTo of) = false
is_own u (SliceOf of) = false
is_own u (ArrayOf size of) = false
is_own u (MapOf key of) = false
is_own u (ChanOf direction of) = false
is_own u (FuncOf of) = false
is_own u (StructOf fields) = false
is_own u (InterfaceOf methods) = false

-- "A receiver base type cannot be a pointer or interface type"
abbrev pub may_have_methods : GoType → Bool
may_have_methods (BasicType kind) = true
may_have_methods (DefinedType name) = true
may_have_methods (PointerTo of) = false
may_have_methods (SliceOf of) = true
may_have_methods (ArrayOf size of) = true
may_have_methods (MapOf key of) = true
may_have_methods (ChanOf direction of) = true
may_have_methods (FuncOf of) = true
may_have_methods (StructOf fields) = true
may_have_methods (InterfaceOf methods) = false

-- "That parameter section must declare a single non-variadic parameter"
abbrev pub is_single : List Node → Node → Bool
is_single nodes node = length node.parts == 1 && entry_count_at nodes (part node 0) == 1

abbrev pub based_on : List Node → Node → List Part → GoType → Rule
based_on nodes node ps under = test (may_have_methods under) BAD_RECEIVER (params_rule nodes node ps)

abbrev pub with_base : List Node → Node → List Part → Option GoType → Rule
with_base nodes node ps under = need_type under (based_on nodes node ps)

abbrev pub base_ask : Unit → List Node → Node → List Part → GoType → Rule
base_ask u nodes node ps of = test (is_own u of) BAD_RECEIVER (bind (under_ask u of) (λ under. with_base nodes node ps under))

abbrev pub receiver_of : Unit → List Node → Node → List Part → Known → Rule
receiver_of u nodes node ps x = base_ask u nodes node ps (receiver_base x.of)

-- E16
abbrev pub receiver_rule : Unit → List Node → Node → List Part → Rule
receiver_rule u nodes node ps = test (is_single nodes node) BAD_RECEIVER (given (part_at ps 0).mark (λ x. receiver_of u nodes node ps x))

abbrev pub is_method_decl : NodeKind → Bool
is_method_decl k.MethodDecl = true
is_method_decl _ = false

-- the list stands in front of the name of a method
abbrev pub is_receiver : List Node → Place → Bool
is_receiver nodes p = p.slot == 0 && is_method_decl (kind_at nodes p.around)

abbrev pub list_in : Unit → List Node → Node → List Part → Place → Rule
list_in u nodes node ps p = if is_receiver nodes p then receiver_rule u nodes node ps else params_rule nodes node ps

abbrev pub list_of : Unit → List Node → Node → List Part → Option Place → Rule
list_of u nodes node ps place = option_map_or (list_in u nodes node ps) place (params_rule nodes node ps)

-- A list of parameters. That of a receiver bears the mark of what is wrong with it; the parameter itself keeps its type.
abbrev pub list_rule : Unit → NodeRef → Node → List Part → Rule
list_rule u at node ps = list_of u (nodes_at u at.file) node ps (place_at u at)
