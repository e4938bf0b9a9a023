-- assign: what is assigned to itself.
use Rattle.std.specs.Prelude.{ℕ, zero, suc, ◌==◌, ◌&&◌, not, Bool, true, false, if◌then◌else◌, List, [], ◌∷◌, ◌++◌, codes, length, Option, Some, None, slice_get}
use Rattle.std.specs.List.{Contains}
use Rattle.std.specs.Option.{option_map_or}
use Rattle.fix_apply.specs.declared.edits.Fix.{Fix}
use Rattle.go_tree.specs.declared.tree.Node.{Node}
use Rattle.go_tree.specs.declared.tree.NodeKind.{NodeKind}
use Rattle.go_tree.specs.declared.tree.NodeKind.TheVariants as k
use Rattle.go_tree.specs.declared.tree.NodeRef.{NodeRef}
use Rattle.package_objects.specs.Declares.{gather, items, part}
use Rattle.typed_tree.specs.declared.mark.Mode.{Mode}
use Rattle.typed_tree.specs.declared.mark.Mode.TheVariants as mode
use Rattle.typed_marks.specs.declared.item.Item.{Item}
use Rattle.typed_marks.specs.Meanings.{Meaning}
use Rattle.unit_read.specs.Units.{Unit, nodes_at}
use Rattle.analysis_core.specs.declared.analyzer_name.AnalyzerName.TheVariants as analyzer
use Rattle.analysis_core.specs.declared.diagnostic.Diagnostic.{Diagnostic}
use Rattle.findings.specs.Reported.{AreFindings}
use Rattle.vet_words.specs.Forms.{bare}
use Rattle.vet_words.specs.Marked.{known_at, mode_is}
use Rattle.vet_words.specs.Quiet.{is_quiet}
use Rattle.vet_words.specs.Texts.{is_same, spelling_at}
use Rattle.vet_words.specs.Diagnosing.{start_of, end_of, diagnosed_at}

-- `=`
abbrev pub is_assign : NodeKind → Bool
is_assign k.Assign = true
is_assign _ = false

-- ---- pairs

abbrev pub is_map_mode : Mode → Bool
is_map_mode mode.MapIndex = true
is_map_mode _ = false

-- an element of a map
abbrev pub is_map_index : Unit → (Item → Meaning) → ℕ → ℕ → Bool
is_map_index u marks f n = mode_is is_map_mode (known_at marks f (bare (nodes_at u f) n))

abbrev pub are_quiet : Unit → (Item → Meaning) → ℕ → ℕ → ℕ → Bool
are_quiet u marks f x y = is_quiet u marks f x && is_quiet u marks f y

abbrev pub is_alike : Unit → (Item → Meaning) → ℕ → ℕ → ℕ → Bool
is_alike u marks f x y = not (is_map_index u marks f x) && is_same u f x y

-- equal quiet sides, the left no element of a map
abbrev pub is_self : Unit → (Item → Meaning) → ℕ → ℕ → ℕ → Bool
is_self u marks f x y = are_quiet u marks f x y && is_alike u marks f x y

-- the i-th of a list, and what is made of it; false where there are fewer
abbrev pub holds_at : List ℕ → ℕ → (ℕ → Bool) → Bool
holds_at list i test = option_map_or test (slice_get list i) false

abbrev pub is_self_pair : Unit → (Item → Meaning) → ℕ → List ℕ → List ℕ → ℕ → Bool
is_self_pair u marks f xs ys i = holds_at xs i (λ x. holds_at ys i (is_self u marks f x))

-- each of the first few holds
abbrev pub all_below : (ℕ → Bool) → ℕ → Bool
all_below test zero = true
all_below test (suc n) = all_below test n && test n

-- ---- what is reported

-- the bytes of a node are removed
abbrev pub removal : Unit → ℕ → Node → Fix
removal u f node = record { file = f; edits = record { start = start_of u f node.first; «end» = end_of u f node.last; text = [] } ∷ [] }

abbrev pub all_self : Unit → (Item → Meaning) → ℕ → List ℕ → List ℕ → Bool
all_self u marks f xs ys = all_below (is_self_pair u marks f xs ys) (length xs)

-- the statement is removed with the first pair, where every pair is reported
abbrev pub fix_of : Unit → (Item → Meaning) → ℕ → Node → List ℕ → List ℕ → Option Fix
fix_of u marks f node xs ys = if all_self u marks f xs ys then Some (removal u f node) else None

abbrev pub nth_fix : Option Fix → ℕ → Option Fix
nth_fix fix zero = fix
nth_fix fix (suc i) = None

abbrev pub self_text : Unit → ℕ → ℕ → List ℕ
self_text u f x = codes "self-assignment of " ++ spelling_at u f x

abbrev pub self_at : Unit → ℕ → Option Fix → ℕ → List Diagnostic
self_at u f fix x = diagnosed_at u f x analyzer.Assign (self_text u f x) fix

abbrev pub self_if : Unit → (Item → Meaning) → ℕ → List ℕ → List ℕ → Option Fix → ℕ → List Diagnostic
self_if u marks f xs ys fix i = if is_self_pair u marks f xs ys i then option_map_or (self_at u f fix) (slice_get xs i) [] else []

abbrev pub nth_self : Unit → (Item → Meaning) → ℕ → List ℕ → List ℕ → Option Fix → ℕ → List Diagnostic
nth_self u marks f xs ys fix i = self_if u marks f xs ys (nth_fix fix i) i

abbrev pub self_pairs : Unit → (Item → Meaning) → ℕ → List ℕ → List ℕ → Option Fix → List Diagnostic
self_pairs u marks f xs ys fix = gather (nth_self u marks f xs ys fix) (length xs)

-- a pair is a left operand and the right one at its place, where there are as many
abbrev pub self_lists : Unit → (Item → Meaning) → ℕ → Node → List ℕ → List ℕ → List Diagnostic
self_lists u marks f node xs ys = if length xs == length ys then self_pairs u marks f xs ys (fix_of u marks f node xs ys) else []

abbrev pub side : Unit → ℕ → Node → ℕ → List ℕ
side u f node i = items (nodes_at u f) (part node i)

-- The pairs of an assignment that are assigned to themselves, each at its left operand.
abbrev pub self_assigned : Unit → (Item → Meaning) → NodeRef → Node → List Diagnostic
self_assigned u marks at node = if is_assign node.kind then self_lists u marks at.file node (side u at.file node 0) (side u at.file node 1) else []

abbrev pub IsSelfAssigned : Unit → (Item → Meaning) → NodeRef → Node → Diagnostic → Type 0
IsSelfAssigned u marks at node d = Contains (self_assigned u marks at node) d

abbrev pub AreSelfAssigned : Unit → (Item → Meaning) → List Diagnostic → Type 0
AreSelfAssigned u marks found = AreFindings IsSelfAssigned u marks found
