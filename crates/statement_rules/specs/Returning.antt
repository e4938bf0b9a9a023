-- Return statements (Go 1.17, "Return statements").
use Rattle.std.specs.Prelude.{ℕ, ◌==◌, nat_le, ◌&&◌, ◌||◌, Bool, true, false, if◌then◌else◌, is_some, List, length, Option, Some, None, slice_get, option_and_then}
use Rattle.std.specs.Option.{option_map_or}
use Rattle.go_tree.specs.declared.tree.Node.{Node}
use Rattle.go_tree.specs.declared.tree.NodeKind.{NodeKind}
use Rattle.go_tree.specs.declared.tree.NodeKind.TheVariants as k
use Rattle.go_tree.specs.declared.tree.NodeRef.{NodeRef}
use Rattle.package_objects.specs.Declares.{items, part, kind_at, is_params}
use Rattle.mark_walk.specs.Asks.{done, bind}
use Rattle.type_model.specs.GoTypes.{GoType}
use Rattle.typed_tree.specs.declared.place.Want.TheVariants as demand
use Rattle.typed_marks.specs.declared.item.Stage.TheVariants as s
use Rattle.typed_marks.specs.Meanings.{Known, Assigned, Meaning, Right, Quiet}
use Rattle.unit_read.specs.declared.place.Place.{Place}
use Rattle.unit_read.specs.Units.{Unit, nodes_at}
use Rattle.rule_words.specs.Asking.{Rule, mark_ask}
use Rattle.rule_words.specs.Good.{given, known_told}
use Rattle.rule_words.specs.Wishes.{nothing_wanted, wants}
use Rattle.variable_rules.specs.Forms.{bare}
use Rattle.variable_rules.specs.Several.{results_of, given_to}
use Rattle.typed_tree.specs.declared.rule.TheConstants.{WRONG_NUMBER_OF_RESULTS}
use Rattle.assign_rules.specs.Around.{function_of}
use Rattle.assign_rules.specs.Kinds.{is_call}
use Rattle.assign_rules.specs.Sharing.{all_returned, shared_told}
use Rattle.assign_rules.specs.Words.{held_if, placed_good, loose_operand}

-- ---- the function

-- in which slot the results of a function stand, where there are any
abbrev pub results_slot : NodeKind → ℕ
results_slot k.FuncDecl = 2
results_slot k.MethodDecl = 3
results_slot _ = 1

abbrev pub is_named_entry : NodeKind → Bool
is_named_entry k.Param = true
is_named_entry _ = false

-- "the result parameters": their names
abbrev pub first_is_named : List Node → Node → Bool
first_is_named nodes params = option_map_or (λ n. is_named_entry (kind_at nodes n)) (part params 0) false

abbrev pub are_named : List Node → Node → Bool
are_named nodes params = is_params params.kind && first_is_named nodes params

abbrev pub are_named_at : List Node → ℕ → Bool
are_named_at nodes n = option_map_or (are_named nodes) (slice_get nodes n) false

abbrev pub names_results_in : List Node → Node → Bool
names_results_in nodes f = option_map_or (are_named_at nodes) (part f (results_slot f.kind)) false

-- the results of the function have names
abbrev pub names_results : List Node → ℕ → Bool
names_results nodes f = option_map_or (names_results_in nodes) (slice_get nodes f) false

-- ---- how many results it has, as it is written: two or more

abbrev pub names_many : List Node → Node → Bool
names_many nodes entry = is_named_entry entry.kind && nat_le 2 (length (items nodes (part entry 0)))

abbrev pub names_many_at : List Node → Option ℕ → Bool
names_many_at nodes o = option_map_or (names_many nodes) (option_and_then (λ n. slice_get nodes n) o) false

abbrev pub are_many : List Node → Node → Bool
are_many nodes params = is_params params.kind && (nat_le 2 (length params.parts) || names_many_at nodes (part params 0))

abbrev pub are_many_at : List Node → ℕ → Bool
are_many_at nodes n = option_map_or (are_many nodes) (slice_get nodes n) false

abbrev pub returns_many_in : List Node → Node → Bool
returns_many_in nodes f = option_map_or (are_many_at nodes) (part f (results_slot f.kind)) false

abbrev pub returns_many : List Node → ℕ → Bool
returns_many nodes f = option_map_or (returns_many_in nodes) (slice_get nodes f) false

-- ---- the values

abbrev pub count_of : List Node → Node → ℕ
count_of nodes node = length (items nodes (part node 0))

abbrev pub first_of : List Node → Node → Option ℕ
first_of nodes node = slice_get (items nodes (part node 0)) 0

abbrev pub calls : List Node → ℕ → Bool
calls nodes n = is_call (kind_at nodes (bare nodes n))

abbrev pub if_calls : List Node → ℕ → Option ℕ
if_calls nodes n = if calls nodes n then Some n else None

-- "the expression list may be a single call to a multi-valued function": the call, where the function has several results
abbrev pub returned_call : List Node → Node → ℕ → Option ℕ
returned_call nodes node f = if count_of nodes node == 1 && returns_many nodes f then option_and_then (if_calls nodes) (first_of nodes node) else None

-- ---- E87

-- only a call gives several
abbrev pub returned_known : ℕ → Known → Rule
returned_known many x = held_if (is_some (given_to x many 0)) WRONG_NUMBER_OF_RESULTS

abbrev pub returned_told : ℕ → Meaning → Rule
returned_told many m = given m (returned_known many)

abbrev pub returned_rule : Unit → ℕ → ℕ → ℕ → Rule
returned_rule u block many n = bind (mark_ask u s.Placed block n) (returned_told many)

abbrev pub valued_rule : Unit → ℕ → List Node → Node → ℕ → ℕ → Rule
valued_rule u block nodes node f many =
    option_map_or (returned_rule u block many) (returned_call nodes node f) (held_if (count_of nodes node == many) WRONG_NUMBER_OF_RESULTS)

-- without values: a function without results, or whose results have names
abbrev pub bare_rule : Bool → ℕ → Rule
bare_rule named many = held_if (many == 0 || named) WRONG_NUMBER_OF_RESULTS

abbrev pub counted_rule : Unit → ℕ → List Node → Node → ℕ → ℕ → Rule
counted_rule u block nodes node f many = if count_of nodes node == 0 then bare_rule (names_results nodes f) many else valued_rule u block nodes node f many

abbrev pub function_known : Unit → ℕ → List Node → Node → ℕ → Known → Rule
function_known u block nodes node f x = counted_rule u block nodes node f (length (results_of x.of))

-- nothing is said where the signature isn't good
abbrev pub function_told : Unit → ℕ → List Node → Node → ℕ → Meaning → Rule
function_told u block nodes node f m = given m (function_known u block nodes node f)

-- the mark of a function before its place tests it has its type
abbrev pub function_rule : Unit → ℕ → List Node → Node → ℕ → Rule
function_rule u block nodes node f = bind (mark_ask u s.Judged block f) (function_told u block nodes node f)

-- The rule of a return statement: E87.
abbrev pub return_rule : Unit → ℕ → NodeRef → Node → Rule
return_rule u block at node = option_map_or (function_rule u block (nodes_at u at.file) node) (function_of u at.file at.node) (done Quiet)

-- ---- what the places of values want: "each expression must be single-valued and assignable to the corresponding element of the function's result type"

abbrev pub result_wants : Unit → ℕ → ℕ → Option GoType → Rule
result_wants u block n o = option_map_or (λ of. wants demand.Operand (Assigned of)) o (loose_operand u block n)

abbrev pub even_wants : Unit → ℕ → ℕ → List GoType → ℕ → Bool → Rule
even_wants u block n results i b = if b then result_wants u block n (slice_get results i) else loose_operand u block n

abbrev pub results_wants : Unit → ℕ → List Node → Node → ℕ → ℕ → List GoType → Rule
results_wants u block nodes around i n results = even_wants u block n results i (count_of nodes around == length results)

abbrev pub known_wants : Unit → ℕ → List Node → Node → ℕ → ℕ → Known → Rule
known_wants u block nodes around i n x = results_wants u block nodes around i n (results_of x.of)

abbrev pub told_wants : Unit → ℕ → List Node → Node → ℕ → ℕ → Meaning → Rule
told_wants u block nodes around i n m = option_map_or (known_wants u block nodes around i n) (known_told m) (loose_operand u block n)

abbrev pub typed_wants : Unit → ℕ → List Node → Node → ℕ → ℕ → ℕ → Rule
typed_wants u block nodes around i n f = bind (mark_ask u s.Judged block f) (told_wants u block nodes around i n)

-- a call that gives all results is looked at by the statement
abbrev pub function_wants : Unit → ℕ → List Node → Node → ℕ → ℕ → ℕ → Rule
function_wants u block nodes around i n f =
    if is_some (returned_call nodes around f) then nothing_wanted else typed_wants u block nodes around i n f

abbrev pub value_wants : Unit → ℕ → ℕ → Place → Node → ℕ → Rule
value_wants u block file p around n =
    option_map_or (function_wants u block (nodes_at u file) around p.index n) (function_of u file p.around) (loose_operand u block n)

-- What the place of a value in a return statement wants.
abbrev pub return_wants : Unit → ℕ → ℕ → Place → Node → Rule
return_wants u block file p around =
    option_map_or (value_wants u block file p around) (slice_get (items (nodes_at u file) (part around 0)) p.index) nothing_wanted

-- ---- E32 at a call that gives all results

abbrev pub passed_results : Unit → Known → List GoType → Rule
passed_results u x results = bind (all_returned u x (length results) results 0) (shared_told x)

-- a call that gives another number is refused by the statement, and where the number differs no result is tested
abbrev pub passed_by : Unit → Known → List GoType → Bool → Rule
passed_by u x results b = if b then passed_results u x results else done (Right x)

abbrev pub passed_among : Unit → Known → List GoType → Rule
passed_among u x results = passed_by u x results (is_some (given_to x (length results) 0))

abbrev pub passed_known : Unit → Known → Known → Rule
passed_known u x f = passed_among u x (results_of f.of)

abbrev pub passed_told : Unit → Known → Meaning → Rule
passed_told u x m = option_map_or (passed_known u x) (known_told m) (done (Right x))

abbrev pub passed_from : Unit → ℕ → Known → ℕ → Rule
passed_from u block x f = bind (mark_ask u s.Judged block f) (passed_told u x)

abbrev pub passed_value : Unit → ℕ → ℕ → ℕ → Known → Rule
passed_value u block file around x = option_map_or (passed_from u block x) (function_of u file around) (done (Right x))

-- The mark of a call that is all that a return statement, which has this number, returns.
abbrev pub passed_rule : Unit → ℕ → ℕ → ℕ → Meaning → Rule
passed_rule u block file around m = placed_good (passed_value u block file around) m
