-- printf: what is wrong with a call of a function that prints, given what each callee's kinds are.
use Rattle.std.specs.Prelude.{if◌then◌else◌, ◌≡◌, ℕ, ◌-◌, Bool, true, false, List, [], drop, length, Option, Some, None, slice_get, slice_index_or, option_and_then}
use Rattle.std.specs.Global.{Vec}
use Rattle.std.specs.Option.{option_map_or}
use Rattle.gv_base.specs.declared.constant.Const.{Const}
use Rattle.gv_base.specs.declared.constant.Const.TheVariants as const
use Rattle.go_tree.specs.declared.tree.Node.{Node}
use Rattle.go_tree.specs.declared.tree.NodeRef.{NodeRef}
use Rattle.object_order.specs.Spots.{place}
use Rattle.package_objects.specs.Declares.{part}
use Rattle.type_model.specs.GoTypes.{GoType, GoSignature, BasicType, DefinedType, PointerTo, SliceOf, ArrayOf, MapOf, ChanOf, FuncOf, StructOf, InterfaceOf, From}
use Rattle.type_model.specs.Parts.{type_list}
use Rattle.type_model.specs.Declarations.{Declarations}
use Rattle.typed_marks.specs.declared.item.Item.{Item}
use Rattle.typed_marks.specs.Meanings.{Known, Meaning}
use Rattle.unit_read.specs.Units.{Unit, nodes_at}
use Rattle.selected_methods.specs.Selected.{declared_by}
use Rattle.analysis_core.specs.declared.analyzer_name.AnalyzerName.TheVariants as analyzer
use Rattle.analysis_core.specs.declared.diagnostic.Diagnostic.{Diagnostic}
use Rattle.findings.specs.Gains.{OfSome}
use Rattle.findings.specs.Passes.{unit_in, marks_in, IsPass}
use Rattle.findings.specs.Reported.{AreFindings}
use Rattle.findings.specs.declared.passing.Pass.{Pass}
use Rattle.printf_format.specs.declared.whole.FormatRead.{FormatRead}
use Rattle.printf_format.specs.Whole.{IsRead}
use Rattle.vet_words.specs.Forms.{is_plain_call, bare}
use Rattle.vet_words.specs.Marked.{known_at}
use Rattle.vet_words.specs.Texts.{spelling_at}
use Rattle.vet_words.specs.Diagnosing.{diagnosed}
use Rattle.vet_printf.specs.declared.ways.Way.{Way}
use Rattle.vet_printf.specs.declared.ways.Way.TheVariants as way
use Rattle.vet_printf.specs.declared.fault.Argument.{Argument}
use Rattle.vet_printf.specs.declared.fault.Classes.{Classes}
use Rattle.vet_printf.specs.declared.fault.Fault.{Fault}
use Rattle.vet_printf.specs.declared.fault.Fault.TheVariants as f
use Rattle.vet_printf.specs.Verbs.{has_flag}
use Rattle.vet_printf.specs.Formats.{format_fault, has_possible}
use Rattle.vet_printf.specs.InTable.{AreEach}
use Rattle.vet_printf.specs.Tables.{IsArgumentOf, AreJudged}
use Rattle.vet_printf.specs.Texts.{fault_text}

-- ---- arguments

-- of an argument of which nothing is known nothing is said
abbrev pub every_class : Classes
every_class = record { boolean = true; integer = true; integer_pointer = true; integer_text_pointer = true; integer_text = true; text = true; reference = true; nothing = true }

abbrev pub any_argument : Argument
any_argument = record { integer = true; error = true; classes = every_class }

abbrev pub IsTold : Declarations → Argument → Option Known → Type 0
IsTold ds x (Some known) = IsArgumentOf ds known.last x
IsTold ds x None = x ≡ any_argument

-- what verbs take the argument at a node, by its final type
abbrev pub IsArgumentAt : Unit → (Item → Meaning) → ℕ → ℕ → Argument → Type 0
IsArgumentAt u marks f n x = IsTold (declared_by u marks) x (known_at marks f n)

abbrev pub IsNthArgument : Unit → (Item → Meaning) → ℕ → List ℕ → ℕ → Argument → Type 0
IsNthArgument u marks f nodes k x = (n : ℕ) × (slice_get nodes k ≡ Some n) × IsArgumentAt u marks f n x

abbrev pub AreArguments : Unit → (Item → Meaning) → ℕ → List ℕ → List Argument → Type 0
AreArguments u marks f nodes list = AreEach (IsNthArgument u marks f nodes) (length nodes) list

-- ---- what is said

-- whose spelling a fault has
abbrev pub fault_node : List ℕ → ℕ → Fault → Option ℕ
fault_node nodes callee (f.Unknown verb) = None
fault_node nodes callee (f.Flag verb flag) = None
fault_node nodes callee f.Errorf = None
fault_node nodes callee (f.Reads n count) = None
fault_node nodes callee (f.Star n) = slice_get nodes (n - 1)
fault_node nodes callee (f.WrongType verb n) = slice_get nodes (n - 1)
fault_node nodes callee f.NoVerb = None
fault_node nodes callee f.BadIndex = None
fault_node nodes callee (f.Needs n count) = None
fault_node nodes callee f.Possible = Some callee

abbrev pub fault_name : Unit → ℕ → List ℕ → ℕ → Fault → List ℕ
fault_name u file nodes callee fault = option_map_or (spelling_at u file) (fault_node nodes callee fault) []

abbrev pub said : Unit → ℕ → Node → List ℕ → ℕ → Fault → Diagnostic
said u file node nodes callee fault = diagnosed u file analyzer.Printf (fault_text (fault_name u file nodes callee fault) fault) None node

-- ---- formats and plain texts

-- the first fault of a format over the arguments at these nodes, or none
pub record IsFaultOf (u : Unit) (marks : Item → Meaning) (file : ℕ) (errorf : Bool) (nodes text : List ℕ) (fault : Option Fault) : Type 0 where
  pub arguments : List Argument
  pub read : FormatRead
  pub are : AreArguments u marks file nodes arguments
  pub reads : IsRead text read
  pub «is» : format_fault errorf arguments read ≡ fault

abbrev pub IsFormatFound : Unit → (Item → Meaning) → ℕ → Node → ℕ → Bool → List ℕ → List ℕ → Diagnostic → Type 0
IsFormatFound u marks file node callee errorf nodes text d = (fault : Fault) × IsFaultOf u marks file errorf nodes text (Some fault) × (d ≡ said u file node nodes callee fault)

-- a text that is printed as it stands, and looks like a format
abbrev pub IsPlainFound : Unit → ℕ → Node → ℕ → List ℕ → List ℕ → Diagnostic → Type 0
IsPlainFound u file node callee nodes text d = (read : FormatRead) × IsRead text read × (has_possible read ≡ true) × (d ≡ said u file node nodes callee f.Possible)

-- ---- constant texts

abbrev pub const_text : Const → Option (List ℕ)
const_text (const.Truth b) = None
const_text (const.Int n) = None
const_text (const.Text text) = Some text

abbrev pub known_text : Known → Option (List ℕ)
known_text x = option_and_then const_text x.value

abbrev pub text_at : (Item → Meaning) → ℕ → ℕ → Option (List ℕ)
text_at marks file n = option_and_then known_text (known_at marks file n)

abbrev pub part_text : (Item → Meaning) → ℕ → Node → ℕ → Option (List ℕ)
part_text marks file node i = option_and_then (text_at marks file) (part node i)

-- ---- calls

abbrev pub params_in : GoSignature → ℕ
params_in (From params results variadic) = length (type_list params)

-- how many parameters a function has
abbrev pub param_count : GoType → ℕ
param_count (BasicType kind) = 0
param_count (DefinedType name) = 0
param_count (PointerTo of) = 0
param_count (SliceOf of) = 0
param_count (ArrayOf size of) = 0
param_count (MapOf key of) = 0
param_count (ChanOf direction of) = 0
param_count (FuncOf of) = params_in of
param_count (StructOf fields) = 0
param_count (InterfaceOf methods) = 0

-- kinds are a set, as fact texts have it: 1 for print, 2 for printf and 4 for errorf. A call is looked at as errorf, else as printf, else as print.
abbrev pub way_of : ℕ → Way
way_of kinds =
    if has_flag kinds 4 then way.Format true
    else (if has_flag kinds 2 then way.Format false
    else (if has_flag kinds 1 then way.Plain
    else way.Silent))

-- The parts of a call are what is called and its arguments: those of the last parameter begin at the part of its number, and a format is the one before.
abbrev pub IsWayFound : Unit → (Item → Meaning) → ℕ → Node → ℕ → ℕ → Way → Diagnostic → Type 0
IsWayFound u marks file node callee count (way.Format errorf) d = OfSome (part_text marks file node (count - 1)) (IsFormatFound u marks file node callee errorf (drop count node.parts)) d
IsWayFound u marks file node callee count way.Plain d = OfSome (part_text marks file node count) (IsPlainFound u file node callee (drop count node.parts)) d
IsWayFound u marks file node callee count way.Silent d = ⊥

-- what a node names, parentheses dropped, and what is known of it
abbrev pub IsKnownFound : (NodeRef → ℕ) → Unit → (Item → Meaning) → ℕ → Node → ℕ → ℕ → Known → Diagnostic → Type 0
IsKnownFound kinds u marks file node callee n x d = IsWayFound u marks file node callee (param_count x.of) (way_of (kinds (place file n))) d

abbrev pub IsBareFound : (NodeRef → ℕ) → Unit → (Item → Meaning) → ℕ → Node → ℕ → ℕ → Diagnostic → Type 0
IsBareFound kinds u marks file node callee n d = OfSome (known_at marks file n) (IsKnownFound kinds u marks file node callee n) d

abbrev pub IsCalleeFound : (NodeRef → ℕ) → Unit → (Item → Meaning) → ℕ → Node → ℕ → Diagnostic → Type 0
IsCalleeFound kinds u marks file node callee d = IsBareFound kinds u marks file node callee (bare (nodes_at u file) callee) d

-- A call without `...` of a function that prints, at the call; `kinds` tells of each node the kinds of the function or method that it names.
abbrev pub IsPrintFault : (NodeRef → ℕ) → Unit → (Item → Meaning) → NodeRef → Node → Diagnostic → Type 0
IsPrintFault kinds u marks at node d = (is_plain_call node.kind ≡ true) × OfSome (part node 0) (IsCalleeFound kinds u marks at.file node) d

abbrev pub ArePrintFaults : (NodeRef → ℕ) → Unit → (Item → Meaning) → List Diagnostic → Type 0
ArePrintFaults kinds u marks found = AreFindings (IsPrintFault kinds) u marks found

-- ---- in code

-- what a table of numbers, a row for each file, has for a node
abbrev pub kinds_at : List (Vec ℕ) → NodeRef → ℕ
kinds_at rows at = option_map_or (λ (row : Vec ℕ). slice_index_or row.items at.node 0) (slice_get rows at.file) 0

-- what is kept of types is so of those of a package's table, and the package is this one
pub record AreJudgedOf (p : Pass) (cells : List (Option Argument)) (u : Unit) (marks : Item → Meaning) : Type 0 where
  pub pass : IsPass p
  pub unit : unit_in p ≡ u
  pub says : marks_in p ≡ marks
  pub are : AreJudged p.state.now.table cells
