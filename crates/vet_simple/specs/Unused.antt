-- unusedresult: a call statement of a function or method of which the result is all.
use Rattle.std.specs.Prelude.{◌≡◌, ◌⊎◌, ℕ, ◌&&◌, ◌||◌, not, Bool, true, false, if◌then◌else◌, List, [], ◌∷◌, ◌++◌, codes, bytes_eq, Option, Some, None, slice_get, option_and_then}
use Rattle.std.specs.Option.{option_map_or}
use Rattle.gv_base.specs.declared.constant.Kind.{Kind}
use Rattle.gv_base.specs.declared.constant.Kind.TheVariants as kind
use Rattle.go_tree.specs.declared.tree.Node.{Node}
use Rattle.go_tree.specs.declared.tree.NodeRef.{NodeRef}
use Rattle.object_order.specs.Spots.{place}
use Rattle.package_objects.specs.Declares.{part}
use Rattle.type_model.specs.GoTypes.{GoType, GoTypes, GoSignature, BasicType, DefinedType, PointerTo, SliceOf, ArrayOf, MapOf, ChanOf, FuncOf, StructOf, InterfaceOf, NoType, AndType, From}
use Rattle.typed_marks.specs.declared.item.Item.{Item}
use Rattle.typed_marks.specs.Meanings.{Known, Meaning}
use Rattle.unit_read.specs.declared.place.Place.{Place}
use Rattle.unit_read.specs.Units.{Unit, nodes_at, node_at, place_at, last_spelled}
use Rattle.assign_rules.specs.Kinds.{takes_statement}
use Rattle.analysis_core.specs.declared.analyzer_name.AnalyzerName.TheVariants as analyzer
use Rattle.analysis_core.specs.declared.diagnostic.Diagnostic.{Diagnostic}
use Rattle.findings.specs.Gains.{OfSome}
use Rattle.findings.specs.Reported.{AreFindings}
use Rattle.vet_words.specs.Forms.{is_call, bare}
use Rattle.vet_words.specs.Marked.{known_at}
use Rattle.vet_words.specs.Called.{function_at, SelectsMethod}
use Rattle.vet_words.specs.Texts.{spelling_at}
use Rattle.vet_words.specs.Diagnosing.{diagnosed}

-- ---- call statements

abbrev pub is_statement_in : Unit → ℕ → Place → Node → Bool
is_statement_in u f p around = takes_statement u f (nodes_at u f) around.kind around p.slot

abbrev pub is_statement_by : Unit → ℕ → Place → Bool
is_statement_by u f p = option_map_or (is_statement_in u f p) (node_at u (place f p.around)) false

-- the node stands where a statement does
abbrev pub is_statement : Unit → NodeRef → Bool
is_statement u at = option_map_or (is_statement_by u at.file) (place_at u at) false

abbrev pub if_call : Node → Option Node
if_call node = if is_call node.kind then Some node else None

-- the call that a node is, parentheses dropped
abbrev pub call_of : List Node → ℕ → Option Node
call_of nodes n = option_and_then if_call (slice_get nodes (bare nodes n))

-- ---- functions

abbrev pub is_print_name : List ℕ → Bool
is_print_name name = bytes_eq name (codes "Errorf") || (bytes_eq name (codes "Sprint") || (bytes_eq name (codes "Sprintf") || bytes_eq name (codes "Sprintln")))

-- a function of which the result is all, by the path of its package and its name
abbrev pub is_pure_name : List ℕ → List ℕ → Bool
is_pure_name path name =
    if bytes_eq path (codes "errors") then bytes_eq name (codes "New")
    else (if bytes_eq path (codes "fmt") then is_print_name name
    else (if bytes_eq path (codes "sort") then bytes_eq name (codes "Reverse")
    else false))

abbrev pub is_pure_function : List ℕ × List ℕ → Bool
is_pure_function x = is_pure_name x.0 x.1

-- the node names such a function
abbrev pub is_pure : Unit → (Item → Meaning) → ℕ → ℕ → Bool
is_pure u marks f n = option_map_or is_pure_function (function_at u marks f n) false

-- ---- methods

abbrev pub is_text_name : List ℕ → Bool
is_text_name name = bytes_eq name (codes "Error") || bytes_eq name (codes "String")

abbrev pub is_text_kind : Kind → Bool
is_text_kind kind.Text = true
is_text_kind _ = false

abbrev pub is_text : GoType → Bool
is_text (BasicType kind) = is_text_kind kind
is_text (DefinedType name) = false
is_text (PointerTo of) = false
is_text (SliceOf of) = false
is_text (ArrayOf size of) = false
is_text (MapOf key of) = false
is_text (ChanOf direction of) = false
is_text (FuncOf of) = false
is_text (StructOf fields) = false
is_text (InterfaceOf methods) = false

abbrev pub are_none : GoTypes → Bool
are_none NoType = true
are_none (AndType of types) = false

abbrev pub are_one_text : GoTypes → Bool
are_one_text NoType = false
are_one_text (AndType of types) = is_text of && are_none types

abbrev pub gives_text : GoSignature → Bool
gives_text (From params results variadic) = are_none params && are_one_text results

-- `func() string`
abbrev pub is_text_function : GoType → Bool
is_text_function (FuncOf of) = gives_text of
is_text_function (BasicType kind) = false
is_text_function (DefinedType name) = false
is_text_function (PointerTo of) = false
is_text_function (SliceOf of) = false
is_text_function (ArrayOf size of) = false
is_text_function (MapOf key of) = false
is_text_function (ChanOf direction of) = false
is_text_function (StructOf fields) = false
is_text_function (InterfaceOf methods) = false

abbrev pub has_text_type : Known → Bool
has_text_type x = is_text_function x.of

abbrev pub is_text_call : Unit → (Item → Meaning) → ℕ → ℕ → Node → Bool
is_text_call u marks f n node = is_text_name (last_spelled u f node) && option_map_or has_text_type (known_at marks f n) false

-- the node selects a method `Error` or `String` of type `func() string`
abbrev pub IsTextMethod : Unit → (Item → Meaning) → ℕ → ℕ → Node → Type 0
IsTextMethod u marks f n node = (is_text_call u marks f n node ≡ true) × SelectsMethod u marks f node

-- ---- what is reported

-- only the result of what the node names counts
abbrev pub IsResult : Unit → (Item → Meaning) → ℕ → ℕ → Node → Type 0
IsResult u marks f n node = (is_pure u marks f n ≡ true) ⊎ IsTextMethod u marks f n node

abbrev pub unused_text : Unit → ℕ → ℕ → List ℕ
unused_text u f callee = codes "result of " ++ (spelling_at u f callee ++ codes " call not used")

-- what is called, as it is written, and the node that it is, parentheses dropped
abbrev pub IsUnusedNamed : Unit → (Item → Meaning) → ℕ → Node → ℕ → ℕ → Node → Diagnostic → Type 0
IsUnusedNamed u marks f node callee n named d = IsResult u marks f n named × (d ≡ diagnosed u f analyzer.UnusedResult (unused_text u f callee) None node)

abbrev pub IsUnusedBare : Unit → (Item → Meaning) → ℕ → Node → ℕ → ℕ → Diagnostic → Type 0
IsUnusedBare u marks f node callee n d = OfSome (slice_get (nodes_at u f) n) (IsUnusedNamed u marks f node callee n) d

abbrev pub IsUnusedCallee : Unit → (Item → Meaning) → ℕ → Node → ℕ → Diagnostic → Type 0
IsUnusedCallee u marks f node callee d = IsUnusedBare u marks f node callee (bare (nodes_at u f) callee) d

abbrev pub IsUnusedCall : Unit → (Item → Meaning) → ℕ → Node → Node → Diagnostic → Type 0
IsUnusedCall u marks f node call d = OfSome (part call 0) (IsUnusedCallee u marks f node) d

-- A call statement of which the result is all, at the statement.
abbrev pub IsUnused : Unit → (Item → Meaning) → NodeRef → Node → Diagnostic → Type 0
IsUnused u marks at node d = (is_statement u at ≡ true) × OfSome (call_of (nodes_at u at.file) at.node) (IsUnusedCall u marks at.file node) d

abbrev pub AreUnused : Unit → (Item → Meaning) → List Diagnostic → Type 0
AreUnused u marks found = AreFindings IsUnused u marks found
