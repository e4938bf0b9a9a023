-- Selectors (Go 1.17, "Selectors", "Method expressions", "Method values", "Method sets", "Address operators"). Before the dot stands a value or a type:
-- qualified identifiers are `op_rules`'.
use Rattle.std.specs.Prelude.{ℕ, Bool, true, false, not, ◌&&◌, if◌then◌else◌, List, [], ◌∷◌, Option, Some, None, option_map, slice_get}
use Rattle.std.specs.List.{list_any}
use Rattle.std.specs.Option.{option_map_or}
use Rattle.mark_walk.specs.Asks.{done, bind}
use Rattle.method_sets.specs.Levels.{Chosen, One, Several, Nothing}
use Rattle.method_sets.specs.Members.{Name, Part, AField, AMethod, fields_from}
use Rattle.method_sets.specs.Paths.{is_pointer}
use Rattle.type_model.specs.GoTypes.{GoType, GoSignature, From, AndType, FuncOf}
use Rattle.type_model.specs.Parts.{GoField, GoMethod}
use Rattle.type_questions.specs.declared.reached.Reached.{Reached}
use Rattle.typed_tree.specs.Places.{is_type}
use Rattle.typed_tree.specs.declared.mark.Mode.TheVariants as mode
use Rattle.typed_tree.specs.declared.rule.TheConstants.{NO_SUCH_FIELD_OR_METHOD}
use Rattle.typed_marks.specs.Meanings.{Known, Meaning, Wrong, Quiet}
use Rattle.unit_read.specs.Units.{Unit}
use Rattle.rule_words.specs.Answers.{typed}
use Rattle.rule_words.specs.Asking.{Asks, Rule, under_ask}
use Rattle.rule_words.specs.Words.{test}
use Rattle.type_answers.specs.Asked.{methods_ask, select_ask, need_told}
use Rattle.type_answers.specs.Unknown.{is_unknown}
use Rattle.typed_tree.specs.declared.rule.TheConstants.{AMBIGUOUS_SELECTOR, NEEDS_AN_ADDRESS}
use Rattle.primary_rules.specs.Operands.{is_variable, part_mode, standing}

-- ---- whether a field has an address

-- the type of the embedded field of this number
abbrev pub embedded_type : Option GoType → ℕ → Option GoType
embedded_type under k = option_map (λ (f : GoField). f.of) (slice_get (fields_from under) k)

-- what is told of the way through an embedded field: whether a pointer is passed, or to which type it leads
pub data Passing : Type 0 where
  Passed : Bool → Passing
  LeadsTo : GoType → Passing

abbrev pub passed_field : Option GoType → Passing
passed_field None = Passed false
passed_field (Some of) = if is_pointer of then Passed true else LeadsTo of

abbrev pub passed_by : ℕ → Option GoType → Asks Passing
passed_by k under = done (passed_field (embedded_type under k))

unfoldable pub pass_ask : Unit → GoType → ℕ → Asks Passing
pass_ask u a k = bind (under_ask u a) (passed_by k)

abbrev pub passes_on : (GoType → Asks Bool) → Passing → Asks Bool
passes_on more (Passed b) = done b
passes_on more (LeadsTo of) = more of

-- one of the embedded fields of these numbers, each of the type that the one before leads to, is embedded by a pointer
abbrev pub passes_ask : Unit → GoType → List ℕ → Asks Bool
passes_ask u a [] = done false
passes_ask u a (k ∷ path) = bind (pass_ask u a k) (passes_on (λ b. passes_ask u b path))

abbrev pub is_pointer_type : Option GoType → Bool
is_pointer_type under = option_map_or is_pointer under false

unfoldable pub path_ask : Unit → GoType → List ℕ → Asks Bool
path_ask u of path = passes_ask u of path

abbrev pub through : Unit → GoType → List ℕ → Option GoType → Asks Bool
through u of path under = if is_pointer_type under then done true else path_ask u of path

-- fields of variables, and those that are selected through a pointer
unfoldable pub through_ask : Unit → GoType → List ℕ → Asks Bool
through_ask u of path = bind (under_ask u of) (through u of path)

unfoldable pub addressable_ask : Unit → Known → List ℕ → Asks Bool
addressable_ask u x path = if is_variable x.mode then done true else through_ask u x.of path

abbrev pub field_mark : GoType → Bool → Rule
field_mark of addressable = done (standing (part_mode addressable) of)

unfoldable pub select_field : Unit → Known → List ℕ → GoType → Rule
select_field u x path of = bind (addressable_ask u x path) (field_mark of)

-- E20: a type has no fields
abbrev pub selected_field : Unit → Known → List ℕ → GoType → Rule
selected_field u x path of = if is_type x.mode then done (Wrong NO_SUCH_FIELD_OR_METHOD) else select_field u x path of

-- ---- methods

-- the method of the name is in the set
abbrev pub is_named : Name → GoMethod → Bool
is_named name m = name m.name m.owner

abbrev pub has_method : Name → List GoMethod → Bool
has_method name methods = list_any (is_named name) methods

-- E22
abbrev pub in_set : Name → Meaning → List GoMethod → Rule
in_set name good methods = test (has_method name methods) NEEDS_AN_ADDRESS (done good)

abbrev pub set_told : Name → Meaning → Reached (List GoMethod) → Rule
set_told name good told = need_told told (in_set name good)

unfoldable pub set_asked : Name → GoType → Meaning → Rule
set_asked name of good = bind (methods_ask of) (set_told name good)

-- "Method values": a method with a pointer receiver is in the method set of the value's type, or the value is addressable
abbrev pub by_address : Known → Bool → Bool
by_address x pointer = pointer && not (is_variable x.mode)

-- a function of this signature; nothing is said of a method without a known one
abbrev pub function_mark : Bool → GoSignature → Meaning
function_mark unknown of = if unknown then Quiet else typed mode.Value (FuncOf of)

abbrev pub method_value : Name → Known → GoSignature → Bool → Rule
method_value name x of pointer = if by_address x pointer then set_asked name x.of (function_mark (is_unknown of) of) else done (function_mark (is_unknown of) of)

-- "Method expressions": a function whose first parameter is the receiver
abbrev pub with_receiver : GoType → GoSignature → GoSignature
with_receiver of (From params results variadic) = From (AndType of params) results variadic

abbrev pub method_expression : Name → GoType → GoSignature → Bool → Rule
method_expression name of method pointer =
    if pointer then set_asked name of (function_mark (is_unknown method) (with_receiver of method)) else done (function_mark (is_unknown method) (with_receiver of method))

abbrev pub selected_method : Name → Known → GoSignature → Bool → Rule
selected_method name x of pointer = if is_type x.mode then method_expression name x.of of pointer else method_value name x of pointer

-- ---- selectors

abbrev pub selected_part : Unit → Name → Known → List ℕ → Part → Rule
selected_part u name x path (AField of) = selected_field u x path of
selected_part u name x path (AMethod of pointer) = selected_method name x of pointer

-- E20, E21
abbrev pub selected : Unit → Name → Known → Chosen → Rule
selected u name x (One path part) = selected_part u name x path part
selected u name x (Several depth) = done (Wrong AMBIGUOUS_SELECTOR)
selected u name x Nothing = done (Wrong NO_SUCH_FIELD_OR_METHOD)

abbrev pub select_told : Unit → Name → Known → Reached Chosen → Rule
select_told u name x told = need_told told (selected u name x)

-- what the name selects from the type of what stands before the dot; of an untyped constant that is its own type
unfoldable pub select_rule : Unit → Name → Known → Rule
select_rule u name x = bind (select_ask x.of name) (select_told u name x)
