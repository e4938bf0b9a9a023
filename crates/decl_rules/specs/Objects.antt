-- The mark of an object, by where its name stands (Go 1.17, "Declarations and scope").
use Rattle.std.specs.Prelude.{ℕ, ◌==◌, ◌&&◌, ◌||◌, Bool, true, false, not, if◌then◌else◌, List, length, codes, Option, Some, None, slice_get, option_and_then}
use Rattle.std.specs.Option.{option_map_or}
use Rattle.std.specs.Str.{bytes_eq}
use Rattle.go_tree.specs.declared.tree.Node.{Node}
use Rattle.go_tree.specs.declared.tree.NodeKind.{NodeKind}
use Rattle.go_tree.specs.declared.tree.NodeKind.TheVariants as k
use Rattle.go_tree.specs.declared.tree.NodeRef.{NodeRef}
use Rattle.object_order.specs.Spots.{place}
use Rattle.const_tree.specs.declared.constant.Spec.{Spec}
use Rattle.const_tree.specs.Constants.{typing_of, values_of, is_repeated}
use Rattle.package_objects.specs.Declares.{part}
use Rattle.type_model.specs.GoTypes.{GoType, DefinedType}
use Rattle.mark_walk.specs.Asks.{done, bind}
use Rattle.typed_tree.specs.Declarations.{has_constants}
use Rattle.typed_tree.specs.declared.mark.Mode.TheVariants as mode
use Rattle.typed_tree.specs.declared.rule.Rule.{Rule as RuleNumber}
use Rattle.typed_tree.specs.declared.rule.TheConstants.{REDECLARED, BAD_INIT, DECLARATION_CYCLE, DUPLICATE_MEMBER}
use Rattle.typed_marks.specs.declared.item.Stage.TheVariants as s
use Rattle.typed_marks.specs.Meanings.{Known, Meaning, Right, Wrong, Quiet}
use Rattle.unit_read.specs.declared.place.Place.{Place}
use Rattle.unit_read.specs.Methods.{is_repeated_method}
use Rattle.unit_read.specs.Units.{Unit, nodes_at, node_at, name_at, place_at, spec_at, is_top, is_blank, type_name_at, copy_at}
use Rattle.rule_words.specs.declared.read.How.TheVariants as h
use Rattle.rule_words.specs.Parts.{Part, read_as}
use Rattle.rule_words.specs.Asking.{Rule, mark_ask, part_ask, under_ask}
use Rattle.rule_words.specs.Words.{need_type}
use Rattle.decl_rules.specs.declared.forms.Named.{Named}
use Rattle.decl_rules.specs.declared.forms.Named.TheVariants as named
use Rattle.decl_rules.specs.Forms.{named_form}
use Rattle.rule_words.specs.Good.{given, known_told}
use Rattle.variable_rules.specs.Objects.{variable_object}
use Rattle.decl_rules.specs.Late.{map_part, member_part}
use Rattle.decl_rules.specs.Methods.{has_field}
use Rattle.type_rules.specs.Structs.{owner_of}
use Rattle.type_rules.specs.Types.{gives_type}
use Rattle.type_rules.specs.Signatures.{results_node}

-- ---- variables and functions

abbrev pub variable : GoType → Meaning
variable of = Right (record { mode = mode.Variable; of = of; value = None; last = of })

abbrev pub function : GoType → Meaning
function of = Right (record { mode = mode.Value; of = of; value = None; last = of })

abbrev pub variable_mark : Meaning → Rule
variable_mark m = given m (λ x. done (variable x.of))

abbrev pub function_mark : Meaning → Rule
function_mark m = given m (λ x. done (function x.of))

abbrev pub alias_mark : Meaning → Rule
alias_mark m = given m (λ x. done (Right (record { mode = x.mode; of = x.of; value = None; last = x.of })))

-- what a rule makes of the mark of a node in its place
abbrev pub placed_ask : Unit → ℕ → Option ℕ → (Meaning → Rule) → Rule
placed_ask u file None rest = done Quiet
placed_ask u file (Some n) rest = bind (mark_ask u s.Placed file n) (λ m. rest m)

-- ---- methods

-- a name that is not blank and that a field has
abbrev pub is_its_field : Unit → List ℕ → GoType → Bool
is_its_field u name under = not (is_blank name) && has_field name (owner_of u name) under

abbrev pub signature_mark : Unit → NodeRef → Rule
signature_mark u at = placed_ask u at.file (Some at.node) function_mark

abbrev pub beside_fields : Unit → NodeRef → NodeRef → Option GoType → Rule
beside_fields u name at None = signature_mark u at
beside_fields u name at (Some under) = if is_its_field u (name_at u name) under then done (Wrong DUPLICATE_MEMBER) else signature_mark u at

abbrev pub of_owner : Unit → NodeRef → NodeRef → Known → Rule
of_owner u name at x = bind (under_ask u x.of) (beside_fields u name at)

abbrev pub by_owner : Unit → NodeRef → NodeRef → Meaning → Rule
by_owner u name at m = option_map_or (of_owner u name at) (known_told m) (signature_mark u at)

-- beside the fields of the type whose name stands there
abbrev pub owned_rule : Unit → NodeRef → NodeRef → NodeRef → Rule
owned_rule u name at t = bind (mark_ask u s.Object t.file t.node) (by_owner u name at)

abbrev pub unrepeated_rule : Unit → NodeRef → NodeRef → Rule
unrepeated_rule u name at = option_map_or (owned_rule u name at) (u.owner at) (signature_mark u at)

-- E14: "the method names must be unique", and "the non-blank method and field names must be distinct"
abbrev pub method_rule : Unit → NodeRef → NodeRef → Rule
method_rule u name at = if is_repeated_method u at then done (Wrong DUPLICATE_MEMBER) else unrepeated_rule u name at

-- of what stands in a method's declaration its name is the second
abbrev pub method_part : Unit → NodeRef → Place → Rule
method_part u name p = if p.slot == 1 then method_rule u name (place name.file p.around) else done Quiet

-- ---- constants

-- a constant: its own type is that of its value
abbrev pub constant_of : Known → Meaning
constant_of x = Right (record { mode = x.mode; of = x.of; value = x.value; last = x.of })

abbrev pub untyped_constant : Meaning → Rule
untyped_constant m = given m (λ x. done (constant_of x))

-- a constant of this type, with the value of this operand; of a type that has none nothing is said
abbrev pub with_type : Known → Known → Meaning
with_type t x = Right (record { mode = mode.Constant; of = t.of; value = x.value; last = t.of })

abbrev pub typed_constant : Known → Meaning → Rule
typed_constant t m = given m (λ x. done (with_type t x))

abbrev pub of_type : Unit → ℕ → Option ℕ → Known → GoType → Rule
of_type u block value t under = if has_constants under then placed_ask u block value (typed_constant t) else done Quiet

abbrev pub of_part : Unit → ℕ → Option ℕ → Option GoType → Known → Rule
of_part u block value under t = need_type under (of_type u block value t)

abbrev pub with_typing : Unit → ℕ → Option ℕ → Part → Rule
with_typing u block value p = given p.mark (λ t. of_part u block value p.under t)

-- the type is read where it is written
abbrev pub typed_in : Unit → ℕ → ℕ → ℕ → Option ℕ → Rule
typed_in u file block t value = bind (part_ask u s.Placed file (read_as h.TypeAndUnder t)) (with_typing u block value)

-- the constant of this value, in the block in which that is read
abbrev pub constant_in : Unit → ℕ → ℕ → Option ℕ → Option ℕ → Rule
constant_in u file block None value = placed_ask u block value untyped_constant
constant_in u file block (Some t) value = typed_in u file block t value

-- "Constant declarations": a list without values repeats the one before
abbrev pub block_of : Unit → ℕ → List Node → Spec → Option ℕ
block_of u file nodes spec = if is_repeated nodes spec then copy_at u (place file spec.node) else Some file

abbrev pub constant_by : Unit → ℕ → List Node → ℕ → Spec → Rule
constant_by u file nodes i spec =
    option_map_or (λ block. constant_in u file block (typing_of nodes spec) (slice_get (values_of nodes spec) i)) (block_of u file nodes spec) (done Quiet)

abbrev pub constant_rule : Unit → NodeRef → ℕ → Rule
constant_rule u name i = option_map_or (constant_by u name.file (nodes_at u name.file) i) (spec_at u name) (done Quiet)

-- ---- types

abbrev pub defined_rule : Unit → NodeRef → Rule
defined_rule u name = option_map_or (λ n. gives_type (DefinedType n)) (type_name_at u name) (done Quiet)

-- ---- objects

abbrev pub form_rule : Unit → NodeRef → Place → Node → Named → Rule
form_rule u name p node named.Constant = constant_rule u name p.index
form_rule u name p node named.Typed = placed_ask u name.file (part node 1) variable_mark
form_rule u name p node named.Valued = variable_object u name.file node p.index
form_rule u name p node named.Param = placed_ask u name.file (Some p.around) variable_mark
form_rule u name p node named.Function = placed_ask u name.file (Some p.around) function_mark
form_rule u name p node named.Method = method_part u name p
form_rule u name p node named.Defined = defined_rule u name
form_rule u name p node named.Alias = placed_ask u name.file (part node 1) alias_mark
form_rule u name p node named.Map = map_part u name p
form_rule u name p node named.Struct = member_part u name

abbrev pub kind_rule : Unit → NodeRef → Place → Node → Rule
kind_rule u name p node = option_map_or (form_rule u name p node) (named_form node.kind) (done Quiet)

-- a method, or an import, whose name is one of its file
abbrev pub is_elsewhere : NodeKind → Bool
is_elsewhere k.MethodDecl = true
is_elsewhere k.Import = true
is_elsewhere k.ImportGroup = true
is_elsewhere k.ImportNamed = true
is_elsewhere _ = false

abbrev pub is_function : NodeKind → Bool
is_function k.FuncDecl = true
is_function _ = false

abbrev pub part_size : List Node → Option ℕ → ℕ
part_size nodes o = option_map_or (λ (node : Node). length node.parts) (option_and_then (λ n. slice_get nodes n) o) 0

-- "Program execution": a function `init` without parameters and results
abbrev pub is_plain_function : List Node → NodeKind → Node → Option ℕ → Bool
is_plain_function nodes kind node results = is_function kind && (part_size nodes (part node 1) == 0 && option_map_or (λ n. false) results true)

-- E2: "the identifier init can only be declared as a function"
abbrev pub is_bad_init : Unit → NodeRef → Bool → Bool
is_bad_init u name plain = is_top u name && (bytes_eq (name_at u name) (codes "init") && not plain)

-- E1, E2, E4: what refuses the name of an object
abbrev pub refusal_of : Unit → NodeRef → Bool → Option RuleNumber
refusal_of u name exempt =
    if u.redeclared name then Some REDECLARED else (if is_bad_init u name exempt then Some BAD_INIT else (if u.cyclic name then Some DECLARATION_CYCLE else None))

-- what a declaration of `init` may be: a function without parameters and results; a method or an import declares no name of the package
abbrev pub is_exempt : List Node → NodeKind → Node → Bool
is_exempt nodes kind node = is_elsewhere kind || is_plain_function nodes kind node (results_node nodes node 2)

abbrev pub unless_refused : Option RuleNumber → Rule → Rule
unless_refused None rest = rest
unless_refused (Some rule) rest = done (Wrong rule)

abbrev pub object_in : Unit → NodeRef → Place → Node → Rule
object_in u name p node = unless_refused (refusal_of u name (is_exempt (nodes_at u name.file) node.kind node)) (kind_rule u name p node)

abbrev pub placed_object : Unit → NodeRef → Place → Rule
placed_object u name p = option_map_or (object_in u name p) (node_at u (place name.file p.around)) (done Quiet)

-- The mark of the object that is declared at a name.
abbrev pub object_rule : Unit → NodeRef → Rule
object_rule u name = option_map_or (placed_object u name) (place_at u name) (done Quiet)
