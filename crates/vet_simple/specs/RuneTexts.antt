-- stringintconv: an integer that is converted to a string of one rune.
use Rattle.std.specs.Prelude.{ℕ, ◌&&◌, not, Bool, true, false, if◌then◌else◌, List, [], ◌∷◌, ◌++◌, codes, Option, Some, None, option_and_then, slice_get}
use Rattle.std.specs.List.{Contains}
use Rattle.std.specs.Option.{option_map_or}
use Rattle.gv_base.specs.declared.constant.Const.{Const}
use Rattle.gv_base.specs.declared.constant.Kind.{Kind}
use Rattle.gv_base.specs.declared.constant.Kind.TheVariants as kind
use Rattle.gv_base.specs.Kinds.{is_integer}
use Rattle.fix_apply.specs.declared.edits.Edit.{Edit}
use Rattle.fix_apply.specs.declared.edits.Fix.{Fix}
use Rattle.go_tree.specs.declared.tree.Node.{Node}
use Rattle.go_tree.specs.declared.tree.NodeRef.{NodeRef}
use Rattle.package_objects.specs.Declares.{part}
use Rattle.type_model.specs.GoTypes.{GoType, BasicType, DefinedType, PointerTo, SliceOf, ArrayOf, MapOf, ChanOf, FuncOf, StructOf, InterfaceOf}
use Rattle.type_model.specs.Declarations.{under_of}
use Rattle.typed_tree.specs.Operands.{fits_in}
use Rattle.typed_marks.specs.declared.item.Item.{Item}
use Rattle.typed_marks.specs.Meanings.{Known, Meaning}
use Rattle.unit_read.specs.Units.{Unit, nodes_at}
use Rattle.selected_methods.specs.Selected.{declared_by}
use Rattle.analysis_core.specs.declared.analyzer_name.AnalyzerName.TheVariants as analyzer
use Rattle.analysis_core.specs.declared.diagnostic.Diagnostic.{Diagnostic}
use Rattle.findings.specs.Reported.{AreFindings}
use Rattle.vet_words.specs.Marked.{known_at, is_conversion}
use Rattle.vet_words.specs.Texts.{spelling_at}
use Rattle.vet_words.specs.Diagnosing.{start_of, end_of, diagnosed}
use Rattle.vet_simple.specs.Unused.{is_text_kind}

-- ---- kinds

abbrev pub kind_told : GoType → Option Kind
kind_told (BasicType kind) = Some kind
kind_told (DefinedType name) = None
kind_told (PointerTo of) = None
kind_told (SliceOf of) = None
kind_told (ArrayOf size of) = None
kind_told (MapOf key of) = None
kind_told (ChanOf direction of) = None
kind_told (FuncOf of) = None
kind_told (StructOf fields) = None
kind_told (InterfaceOf methods) = None

-- the kind of the underlying type
abbrev pub kind_under : Unit → (Item → Meaning) → GoType → Option Kind
kind_under u marks of = option_and_then kind_told (under_of (declared_by u marks) of)

-- a byte or a rune
abbrev pub is_character : Kind → Bool
is_character kind.Uint8 = true
is_character kind.Int32 = true
is_character _ = false

abbrev pub is_other_integer : Kind → Bool
is_other_integer kind = is_integer kind && not (is_character kind)

-- ---- conversions

-- the type that is converted to
abbrev pub target_kind : Unit → (Item → Meaning) → Known → Option Kind
target_kind u marks x = kind_under u marks x.of

-- the final type of what is converted: that of an untyped rune is rune
abbrev pub operand_kind : Unit → (Item → Meaning) → Known → Option Kind
operand_kind u marks x = kind_under u marks x.last

abbrev pub part_known : (Item → Meaning) → ℕ → Node → ℕ → Option Known
part_known marks f node i = option_and_then (known_at marks f) (part node i)

abbrev pub to_text : Unit → (Item → Meaning) → ℕ → Node → Bool
to_text u marks f node = option_map_or is_text_kind (option_and_then (target_kind u marks) (part_known marks f node 0)) false

abbrev pub of_integer : Unit → (Item → Meaning) → ℕ → Node → Bool
of_integer u marks f node = option_map_or is_other_integer (option_and_then (operand_kind u marks) (part_known marks f node 1)) false

-- to a string type, from an integer type other than those of bytes and runes
abbrev pub gives_rune : Unit → (Item → Meaning) → ℕ → Node → Bool
gives_rune u marks f node = is_conversion marks f node && (to_text u marks f node && of_integer u marks f node)

-- ---- what is reported

abbrev pub rune_text : Unit → ℕ → ℕ → List ℕ
rune_text u f callee = codes "conversion to " ++ (spelling_at u f callee ++ codes " yields a string of one rune")

abbrev pub inserted : ℕ → List ℕ → Edit
inserted at text = record { start = at; «end» = at; text = text }

-- `rune(` before the operand, and `)` behind it
abbrev pub rune_edits : Unit → ℕ → Node → Fix
rune_edits u f operand = record { file = f; edits = inserted (start_of u f operand.first) (codes "rune(") ∷ inserted (end_of u f operand.last) (codes ")") ∷ [] }

abbrev pub fits_rune : Const → Bool
fits_rune c = fits_in c kind.Int32

abbrev pub value_fits : Known → Bool
value_fits x = option_map_or fits_rune x.value true

-- an operand that is constant is a rune's value
abbrev pub goes_into_rune : (Item → Meaning) → ℕ → ℕ → Bool
goes_into_rune marks f operand = option_map_or value_fits (known_at marks f operand) true

-- where `rune` denotes the predeclared type
abbrev pub rune_fix : (NodeRef → Bool) → Unit → (Item → Meaning) → NodeRef → ℕ → Node → Option Fix
rune_fix free u marks at operand node = if free at && goes_into_rune marks at.file operand then Some (rune_edits u at.file node) else None

abbrev pub rune_found : (NodeRef → Bool) → Unit → (Item → Meaning) → NodeRef → Node → ℕ → ℕ → Node → List Diagnostic
rune_found free u marks at node callee operand inner = diagnosed u at.file analyzer.StringIntConv (rune_text u at.file callee) (rune_fix free u marks at operand inner) node ∷ []

abbrev pub rune_operand : (NodeRef → Bool) → Unit → (Item → Meaning) → NodeRef → Node → ℕ → ℕ → List Diagnostic
rune_operand free u marks at node callee operand = option_map_or (rune_found free u marks at node callee operand) (slice_get (nodes_at u at.file) operand) []

abbrev pub rune_callee : (NodeRef → Bool) → Unit → (Item → Meaning) → NodeRef → Node → ℕ → List Diagnostic
rune_callee free u marks at node callee = option_map_or (rune_operand free u marks at node callee) (part node 1) []

abbrev pub rune_parts : (NodeRef → Bool) → Unit → (Item → Meaning) → NodeRef → Node → List Diagnostic
rune_parts free u marks at node = option_map_or (rune_callee free u marks at node) (part node 0) []

-- A conversion of an integer to a string, at the conversion; `free` tells at which nodes `rune` denotes the predeclared type.
abbrev pub rune_texts : (NodeRef → Bool) → Unit → (Item → Meaning) → NodeRef → Node → List Diagnostic
rune_texts free u marks at node = if gives_rune u marks at.file node then rune_parts free u marks at node else []

abbrev pub IsRuneText : (NodeRef → Bool) → Unit → (Item → Meaning) → NodeRef → Node → Diagnostic → Type 0
IsRuneText free u marks at node d = Contains (rune_texts free u marks at node) d

abbrev pub AreRuneTexts : (NodeRef → Bool) → Unit → (Item → Meaning) → List Diagnostic → Type 0
AreRuneTexts free u marks found = AreFindings (IsRuneText free) u marks found
