-- bools: what stands twice in a chain of `&&` or `||`, and comparisons of one operand that can't fail together.
use Rattle.std.specs.Prelude.{ℕ, zero, suc, ◌&&◌, ◌||◌, not, Bool, true, false, if◌then◌else◌, List, [], ◌∷◌, ◌++◌, codes, length, Option, Some, None, slice_get, option_and_then}
use Rattle.std.specs.List.{Contains}
use Rattle.std.specs.Option.{option_map_or}
use Rattle.go_tree.specs.declared.tree.FileTree.{FileTree}
use Rattle.go_tree.specs.declared.tree.Node.{Node}
use Rattle.go_tree.specs.declared.tree.NodeRef.{NodeRef}
use Rattle.const_eval.specs.declared.operator.Operator.{Operator}
use Rattle.const_eval.specs.declared.operator.Operator.TheVariants as op
use Rattle.object_order.specs.Spots.{place}
use Rattle.package_objects.specs.Declares.{part, kind_at}
use Rattle.typed_marks.specs.declared.item.Item.{Item}
use Rattle.typed_marks.specs.Meanings.{Meaning}
use Rattle.unit_read.specs.declared.place.Place.{Place}
use Rattle.unit_read.specs.Units.{Unit, nodes_at, place_at}
use Rattle.analysis_core.specs.declared.analyzer_name.AnalyzerName.TheVariants as analyzer
use Rattle.analysis_core.specs.declared.diagnostic.Diagnostic.{Diagnostic}
use Rattle.findings.specs.Reported.{AreFindings}
use Rattle.vet_words.specs.Forms.{is_paren, bare}
use Rattle.vet_words.specs.Marked.{is_constant}
use Rattle.vet_words.specs.Quiet.{is_quiet}
use Rattle.vet_words.specs.Texts.{is_same, spelling_at}
use Rattle.vet_words.specs.Diagnosing.{diagnosed_at}
use Rattle.vet_simple.specs.NilFunctions.{is_binary, operator_at}
use Rattle.vet_simple.specs.declared.chains.Chain.{Chain}
use Rattle.vet_simple.specs.declared.chains.Chain.TheVariants as chain

-- ---- operators

abbrev pub chain_by : Operator → Option Chain
chain_by op.AndAlso = Some chain.And
chain_by op.OrElse = Some chain.Or
chain_by _ = None

-- of which chain a node is a part, if it is one
abbrev pub chain_of : Unit → ℕ → Node → Option Chain
chain_of u f node = if is_binary node.kind then option_and_then chain_by (operator_at u f node) else None

abbrev pub is_one : Chain → Chain → Bool
is_one chain.And chain.And = true
is_one chain.And chain.Or = false
is_one chain.Or chain.And = false
is_one chain.Or chain.Or = true

abbrev pub continues_in : Unit → ℕ → Chain → Node → Bool
continues_in u f c node = option_map_or (is_one c) (chain_of u f node) false

-- the node goes on with the chain
abbrev pub continues : Unit → ℕ → Chain → ℕ → Bool
continues u f c n = option_map_or (continues_in u f c) (slice_get (nodes_at u f) n) false

-- ---- the operands of a chain

abbrev pub side_at : Unit → ℕ → ℕ → ℕ → Option ℕ
side_at u f n i = option_and_then (λ (node : Node). part node i) (slice_get (nodes_at u f) n)

abbrev pub of_side : (ℕ → List ℕ) → Option ℕ → List ℕ
of_side further o = option_map_or further o []

-- the operands of an operand, parentheses dropped, where it goes on with the chain; else the operand itself
abbrev pub operands_from : Unit → ℕ → Chain → ℕ → ℕ → List ℕ
operands_from u f c zero n = n ∷ []
operands_from u f c (suc most) n =
    if continues u f c (bare (nodes_at u f) n)
    then of_side (operands_from u f c most) (side_at u f (bare (nodes_at u f) n) 0) ++ of_side (operands_from u f c most) (side_at u f (bare (nodes_at u f) n) 1)
    else n ∷ []

-- from left to right, each as it is written
abbrev pub operands : Unit → ℕ → Chain → ℕ → List ℕ
operands u f c n = operands_from u f c (length (nodes_at u f)) n

-- what stands around a node, parentheses dropped
abbrev pub around_by : Unit → ℕ → (ℕ → Option ℕ) → Place → Option ℕ
around_by u f further p = if is_paren (kind_at (nodes_at u f) p.around) then further p.around else Some p.around

abbrev pub around_from : Unit → ℕ → ℕ → ℕ → Option ℕ
around_from u f zero n = None
around_from u f (suc most) n = option_and_then (around_by u f (around_from u f most)) (place_at u (place f n))

abbrev pub around : Unit → ℕ → ℕ → Option ℕ
around u f n = around_from u f (length (nodes_at u f)) n

-- the chain goes on around the node
abbrev pub is_inner : Unit → ℕ → Chain → ℕ → Bool
is_inner u f c n = option_map_or (continues u f c) (around u f n) false

-- ---- runs

-- one of the run equals the operand
abbrev pub is_again : Unit → ℕ → List ℕ → ℕ → Bool
is_again u f [] x = false
is_again u f (y ∷ run) x = is_same u f y x || is_again u f run x

-- how the operator of a chain, and what it means, are written
abbrev pub joined : Chain → List ℕ
joined chain.And = codes " && "
joined chain.Or = codes " || "

abbrev pub redundant_word : Chain → List ℕ
redundant_word chain.And = codes "redundant and: "
redundant_word chain.Or = codes "redundant or: "

abbrev pub suspect_word : Chain → List ℕ
suspect_word chain.And = codes "suspect and: "
suspect_word chain.Or = codes "suspect or: "

abbrev pub pair_text : Unit → ℕ → Chain → List ℕ → ℕ → ℕ → List ℕ
pair_text u f c word x y = word ++ (spelling_at u f x ++ (joined c ++ spelling_at u f y))

abbrev pub redundant : Unit → ℕ → Chain → List ℕ → ℕ → List Diagnostic
redundant u f c run x = if is_again u f run x then diagnosed_at u f x analyzer.Bools (pair_text u f c (redundant_word c) x x) None else []

-- ---- comparisons with constants

-- of `||` the operands that are no equalities, of `&&` those that are
abbrev pub tests_by : Chain → Operator → Bool
tests_by chain.And op.Equal = true
tests_by chain.Or op.NotEqual = true
tests_by _ _ = false

abbrev pub is_tested : Unit → ℕ → Chain → Node → Bool
is_tested u f c node = is_binary node.kind && option_map_or (tests_by c) (operator_at u f node) false

-- the side that isn't constant, where the other one is
abbrev pub changing : (Item → Meaning) → ℕ → ℕ → ℕ → Option ℕ
changing marks f x y =
    if is_constant marks f x then (if is_constant marks f y then None else Some y) else (if is_constant marks f y then Some x else None)

abbrev pub changing_side : (Item → Meaning) → ℕ → Node → Option ℕ
changing_side marks f node = option_and_then (λ x. option_and_then (changing marks f x) (part node 1)) (part node 0)

abbrev pub tested_in : Unit → (Item → Meaning) → ℕ → Chain → Node → Option ℕ
tested_in u marks f c node = if is_tested u f c node then changing_side marks f node else None

-- what an operand compares with a constant
abbrev pub tested : Unit → (Item → Meaning) → ℕ → Chain → ℕ → Option ℕ
tested u marks f c x = option_and_then (tested_in u marks f c) (slice_get (nodes_at u f) (bare (nodes_at u f) x))

abbrev pub tests_same : Unit → (Item → Meaning) → ℕ → Chain → ℕ → ℕ → Bool
tests_same u marks f c t y = option_map_or (λ s. is_same u f s t) (tested u marks f c y) false

-- the first of the run that compares the same
abbrev pub first_testing : Unit → (Item → Meaning) → ℕ → Chain → List ℕ → ℕ → Option ℕ
first_testing u marks f c [] t = None
first_testing u marks f c (y ∷ run) t = if tests_same u marks f c t y then Some y else first_testing u marks f c run t

abbrev pub suspect_pair : Unit → ℕ → Chain → ℕ → ℕ → List Diagnostic
suspect_pair u f c x y = if is_same u f y x then [] else diagnosed_at u f x analyzer.Bools (pair_text u f c (suspect_word c) x y) None

abbrev pub suspect_by : Unit → (Item → Meaning) → ℕ → Chain → List ℕ → ℕ → ℕ → List Diagnostic
suspect_by u marks f c run x t = option_map_or (suspect_pair u f c x) (first_testing u marks f c run t) []

abbrev pub suspect : Unit → (Item → Meaning) → ℕ → Chain → List ℕ → ℕ → List Diagnostic
suspect u marks f c run x = option_map_or (suspect_by u marks f c run x) (tested u marks f c x) []

-- ---- what is reported

-- an operand of a run, by those of the run before it
abbrev pub in_run : Unit → (Item → Meaning) → ℕ → Chain → List ℕ → ℕ → List Diagnostic
in_run u marks f c run x = redundant u f c run x ++ suspect u marks f c run x

-- a run ends at an operand that isn't quiet
abbrev pub run_with : Unit → (Item → Meaning) → ℕ → List ℕ → ℕ → List ℕ
run_with u marks f run x = if is_quiet u marks f x then run ++ x ∷ [] else []

abbrev pub if_quiet : Unit → (Item → Meaning) → ℕ → Chain → List ℕ → ℕ → List Diagnostic
if_quiet u marks f c run x = if is_quiet u marks f x then in_run u marks f c run x else []

abbrev pub in_runs : Unit → (Item → Meaning) → ℕ → Chain → List ℕ → List ℕ → List Diagnostic
in_runs u marks f c run [] = []
in_runs u marks f c run (x ∷ xs) = if_quiet u marks f c run x ++ in_runs u marks f c (run_with u marks f run x) xs

abbrev pub in_chain : Unit → (Item → Meaning) → ℕ → ℕ → Chain → List Diagnostic
in_chain u marks f n c = if is_inner u f c n then [] else in_runs u marks f c [] (operands u f c n)

-- The operands of a maximal chain of `&&` or `||`, cut into runs of quiet ones: each at the later.
abbrev pub bools_found : Unit → (Item → Meaning) → NodeRef → Node → List Diagnostic
bools_found u marks at node = option_map_or (in_chain u marks at.file at.node) (chain_of u at.file node) []

abbrev pub IsBoolFound : Unit → (Item → Meaning) → NodeRef → Node → Diagnostic → Type 0
IsBoolFound u marks at node d = Contains (bools_found u marks at node) d

abbrev pub AreBoolFound : Unit → (Item → Meaning) → List Diagnostic → Type 0
AreBoolFound u marks found = AreFindings IsBoolFound u marks found
