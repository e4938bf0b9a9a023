-- nilfunc: a function or method that is compared with `nil`.
use Rattle.std.specs.Prelude.{◌≡◌, ℕ, Bool, true, false, if◌then◌else◌, List, [], ◌∷◌, ◌++◌, codes, Option, Some, None, slice_get, option_and_then}
use Rattle.go_tree.specs.declared.tree.FileTree.{FileTree}
use Rattle.go_tree.specs.declared.tree.Node.{Node}
use Rattle.go_tree.specs.declared.tree.NodeKind.{NodeKind}
use Rattle.go_tree.specs.declared.tree.NodeKind.TheVariants as k
use Rattle.go_tree.specs.declared.tree.NodeRef.{NodeRef}
use Rattle.const_eval.specs.declared.operator.Operator.{Operator}
use Rattle.const_eval.specs.declared.operator.Operator.TheVariants as op
use Rattle.const_tree.specs.Operators.{binary_operator}
use Rattle.package_objects.specs.Declares.{part}
use Rattle.typed_marks.specs.declared.item.Item.{Item}
use Rattle.typed_marks.specs.Meanings.{Meaning}
use Rattle.unit_read.specs.Units.{Unit, tree_at, nodes_at}
use Rattle.analysis_core.specs.declared.analyzer_name.AnalyzerName.TheVariants as analyzer
use Rattle.analysis_core.specs.declared.diagnostic.Diagnostic.{Diagnostic}
use Rattle.findings.specs.Gains.{OfSome}
use Rattle.findings.specs.Reported.{AreFindings}
use Rattle.vet_words.specs.Forms.{bare}
use Rattle.vet_words.specs.Marked.{is_nil}
use Rattle.vet_words.specs.Called.{IsFunction}
use Rattle.vet_words.specs.Texts.{spelling_at}
use Rattle.vet_words.specs.Diagnosing.{diagnosed}

-- ---- comparisons

abbrev pub is_binary : NodeKind → Bool
is_binary k.Binary = true
is_binary _ = false

-- how a comparison with a function ends
abbrev pub outcome_of : Operator → Option (List ℕ)
outcome_of op.Equal = Some (codes " == nil is always false")
outcome_of op.NotEqual = Some (codes " != nil is always true")
outcome_of _ = None

abbrev pub operator_at : Unit → ℕ → Node → Option Operator
operator_at u f node = option_and_then (λ (tree : FileTree). binary_operator tree node) (tree_at u f)

-- that of a node
abbrev pub outcome_at : Unit → ℕ → Node → Option (List ℕ)
outcome_at u f node = if is_binary node.kind then option_and_then outcome_of (operator_at u f node) else None

-- ---- what is compared with `nil`

-- a side, where the other one is `nil`
abbrev pub beside_nil : (Item → Meaning) → ℕ → ℕ → ℕ → Option ℕ
beside_nil marks f x y = if is_nil marks f x then Some y else (if is_nil marks f y then Some x else None)

abbrev pub bare_sides : Unit → (Item → Meaning) → ℕ → ℕ → ℕ → Option ℕ
bare_sides u marks f x y = beside_nil marks f (bare (nodes_at u f) x) (bare (nodes_at u f) y)

-- parentheses dropped
abbrev pub compared : Unit → (Item → Meaning) → ℕ → Node → Option ℕ
compared u marks f node = option_and_then (λ x. option_and_then (bare_sides u marks f x) (part node 1)) (part node 0)

-- ---- what is reported

abbrev pub compared_text : Unit → ℕ → ℕ → List ℕ → List ℕ
compared_text u f n outcome = codes "comparison of function " ++ (spelling_at u f n ++ outcome)

abbrev pub IsComparedNode : Unit → (Item → Meaning) → ℕ → Node → List ℕ → ℕ → Node → Diagnostic → Type 0
IsComparedNode u marks f node outcome n named d = IsFunction u marks f n named × (d ≡ diagnosed u f analyzer.NilFunc (compared_text u f n outcome) None node)

abbrev pub IsComparedWith : Unit → (Item → Meaning) → ℕ → Node → List ℕ → ℕ → Diagnostic → Type 0
IsComparedWith u marks f node outcome n d = OfSome (slice_get (nodes_at u f) n) (IsComparedNode u marks f node outcome n) d

abbrev pub IsCompared : Unit → (Item → Meaning) → ℕ → Node → List ℕ → Diagnostic → Type 0
IsCompared u marks f node outcome d = OfSome (compared u marks f node) (IsComparedWith u marks f node outcome) d

-- A declared function or method that is compared with `nil`, at the comparison.
abbrev pub IsNilCompared : Unit → (Item → Meaning) → NodeRef → Node → Diagnostic → Type 0
IsNilCompared u marks at node d = OfSome (outcome_at u at.file node) (IsCompared u marks at.file node) d

abbrev pub AreNilCompared : Unit → (Item → Meaning) → List Diagnostic → Type 0
AreNilCompared u marks found = AreFindings IsNilCompared u marks found
