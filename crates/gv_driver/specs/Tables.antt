-- The table of what is done, and what can be done next.
use Rattle.std.specs.Prelude.{◌≡◌, ℕ, suc, ◌<◌, ◌≤◌, ◌^◌, ◌==◌, Bool, true, false, Option, Some, None, List, [], ◌∷◌, ◌++◌, map, drop, take, length, slice_get, sum_by, if◌then◌else◌, ◌↔◌}
use Rattle.std.specs.List.{Contains}
use Rattle.export_text.specs.Faces.{IsFaceText}
use Rattle.export_text.specs.Mentions.{AreMentions}
use Rattle.package_faces.specs.Faces.{Face}
use Rattle.action_graph.specs.declared.kit.LoadInput.{LoadInput}
use Rattle.action_graph.specs.Nodes.{Named}
use Rattle.action_graph.specs.Analyzing.{IsRunOutcome}
use Rattle.action_graph.specs.Judging.{IsLawful, IsOutcome, accepted_text, refused_text}
use Rattle.action_graph.specs.Judging.Judged.{Accepts}
use Rattle.fact_cache.specs.declared.texts.Input.{Input}
use Rattle.fact_cache.specs.declared.list.Entry.{Entry}
use Rattle.gv_driver.specs.declared.tree.PackageTexts.{PackageTexts}
use Rattle.gv_driver.specs.declared.node.Answer.{Answer}
use Rattle.gv_driver.specs.declared.node.Answer.TheVariants.{Accepted, Refused}
use Rattle.gv_driver.specs.declared.node.Node.{Node}
use Rattle.gv_driver.specs.declared.node.RunNode.{RunNode}
use Rattle.gv_driver.specs.Analyzers.{analyzers_of}
use Rattle.gv_driver.specs.Facts.{IsGiven}
use Rattle.gv_driver.specs.Trees.{Imports}
use Rattle.gv_driver.specs.Rows.{merged, of_paths, path_in}
use Rattle.gv_driver.specs.Whole.{Checked, Reaches}
use Rattle.gv_driver.specs.Loads.{IsInput, IsLoadOf, load_input, run_key, run_keys, run_over}
use Rattle.gv_driver.specs.Caches.{IsHonest, left_of, missing_of, one_of}

-- an answer's outcome text
abbrev pub answer_text : Answer → List ℕ
answer_text (Accepted export) = accepted_text export
answer_text (Refused marks) = refused_text marks

-- it begins with the digit 1
abbrev pub begins_with_one : List ℕ → Bool
begins_with_one [] = false
begins_with_one (c ∷ rest) = c == 49

-- the answer that an outcome text tells
abbrev pub answer_in : List ℕ → Answer
answer_in text = if begins_with_one text then Accepted (drop 1 (drop 1 text)) else Refused (drop 1 (drop 1 text))

abbrev pub is_good : Answer → Bool
is_good (Accepted export) = true
is_good (Refused marks) = false

abbrev pub export_part : Answer → List ℕ
export_part (Accepted export) = export
export_part (Refused marks) = []

abbrev pub accepted_one : Option Node → Bool
accepted_one None = false
accepted_one (Some n) = is_good n.answer

abbrev pub accepted_in : Option (Option Node) → Bool
accepted_in None = false
accepted_in (Some node) = accepted_one node

-- q's load is done and accepted
abbrev pub IsGood : List (Option Node) → ℕ → Type 0
IsGood table q = accepted_in (slice_get table q) ≡ true

abbrev pub export_in : Option (Option Node) → List ℕ
export_in None = []
export_in (Some None) = []
export_in (Some (Some n)) = export_part n.answer

-- the path and the export text of a package, as far as they are known
abbrev pub pair_at : List PackageTexts → List (Option Node) → ℕ → Named
pair_at tree table q = (path_in (slice_get tree q), export_in (slice_get table q))

-- what a load over these packages reads, as far as it is known
abbrev pub load_over : List PackageTexts → List (Option Node) → List ℕ → PackageTexts → LoadInput
load_over tree table numbers pack = record { path = pack.path; files = pack.files; env = map (pair_at tree table) numbers }

-- what a load reads, as far as it is known
abbrev pub load_from : List PackageTexts → List (Option Node) → PackageTexts → LoadInput
load_from tree table pack = load_over tree table (merged table pack.imports) pack

-- an input, if there is one, before these
abbrev pub with_fresh : Option Input → List Input → List Input
with_fresh None rest = rest
with_fresh (Some input) rest = input ∷ rest

-- the inputs of the runs that were executed, in turn
abbrev pub fresh_runs : List RunNode → List Input
fresh_runs [] = []
fresh_runs (r ∷ more) = with_fresh r.fresh (fresh_runs more)

-- and before them that of the load, where it had no entry
abbrev pub fresh_node : Node → List Input
fresh_node n = with_fresh n.fresh (fresh_runs n.runs)

abbrev pub runs_of_node : Option Node → List RunNode
runs_of_node None = []
runs_of_node (Some n) = n.runs

-- each package has at most as many runs as there are numbers of analyzers
abbrev pub AreShort : List (Option Node) → Type 0
AreShort table = (p : ℕ) (o : Option Node) → slice_get table p ≡ Some o → length (runs_of_node o) ≤ 15

-- the analyzer of a run
abbrev pub number_in : RunNode → ℕ
number_in r = r.analyzer

abbrev pub numbers_in : List RunNode → List ℕ
numbers_in runs = map number_in runs

-- these, where the package is accepted
abbrev pub chosen_if : Bool → List ℕ → List ℕ
chosen_if true numbers = numbers
chosen_if false numbers = []

-- p's node, with what comes of its load and of its runs
pub record IsRightNode (tree : List PackageTexts) (only p : ℕ) (n : Node) : Type 0 where
  pub load : LoadInput
  pub of : IsLoadOf tree p load
  pub lawful : IsLawful load
  pub given : ℕ → List Named
  pub are_given : (k : ℕ) (r : RunNode) → slice_get n.runs k ≡ Some r → IsGiven tree r.analyzer of.numbers (given r.analyzer)
  pub outcome : IsOutcome load (answer_text n.answer)
  pub numbers : numbers_in n.runs ≡ chosen_if (is_good n.answer) (analyzers_of only of.pack.stub)
  pub runs : (k : ℕ) (r : RunNode) → slice_get n.runs k ≡ Some r → IsRunOutcome (run_over given r.analyzer load) r.outcome
  pub short : (k : ℕ) (r : RunNode) → slice_get n.runs k ≡ Some r → length r.outcome < 2 ^ 64

-- each node in the table is right
pub record AreRight (tree : List PackageTexts) (only : ℕ) (table : List (Option Node)) : Type 0 where
  pub size : length table ≡ length tree
  pub node : (p : ℕ) (n : Node) → slice_get table p ≡ Some (Some n) → IsRightNode tree only p n

-- p's load and the first of its runs were looked up by inputs that begin with p's path, and are fresh where the cache had no outcome of
-- these. Over an honest cache they are the inputs of p's nodes.
pub record IsLookedUp (tree : List PackageTexts) (only : ℕ) (before : List Entry) (p : ℕ) (n : Node) : Type 0 where
  pub pack : PackageTexts
  pub load : LoadInput
  pub given : ℕ → List Named
  pub done : ℕ
  pub at : slice_get tree p ≡ Some pack
  pub path : load.path ≡ pack.path
  pub left : n.fresh ≡ left_of before (load_input load)
  pub numbers : numbers_in n.runs ≡ take done (analyzers_of only pack.stub)
  pub runs : fresh_runs n.runs ≡ missing_of before (run_keys given load (numbers_in n.runs))
  pub each : (k : ℕ) (r : RunNode) → slice_get n.runs k ≡ Some r → r.fresh ≡ left_of before (run_key given load r.analyzer)
  pub of : IsHonest before → IsLoadOf tree p load
  pub are_given : (honest : IsHonest before) (k : ℕ) (r : RunNode) → slice_get n.runs k ≡ Some r → IsGiven tree r.analyzer (of honest).numbers (given r.analyzer)
  pub good : IsHonest before → (n.runs ≡ [] → ⊥) → (f : Face) × Checked tree p (Accepts f)

-- so is each node in the table
abbrev pub AreLookedUp : List PackageTexts → ℕ → List Entry → List (Option Node) → Type 0
AreLookedUp tree only before table = (p : ℕ) (n : Node) → slice_get table p ≡ Some (Some n) → IsLookedUp tree only before p n

-- The table over any cache: what a done package imports is accepted. Over an honest cache its nodes are right.
pub record IsTable (tree : List PackageTexts) (only : ℕ) (before : List Entry) (table : List (Option Node)) : Type 0 where
  pub size : length table ≡ length tree
  pub closed : (p q : ℕ) (n : Node) → slice_get table p ≡ Some (Some n) → Imports tree p q → IsGood table q
  pub looked : AreLookedUp tree only before table
  pub right : IsHonest before → AreRight tree only table

-- each of these is done and accepted
abbrev pub AreGood : List (Option Node) → List ℕ → Type 0
AreGood table numbers = (q : ℕ) → Contains numbers q → IsGood table q

-- The rows of a table, of what is reached from each accepted package: over any cache they hold packages that are done and accepted; over an
-- honest one exactly those that are reached.
pub record AreRows (tree : List PackageTexts) (before : List Entry) (table : List (Option Node)) : Type 0 where
  pub good : (p : ℕ) (n : Node) → slice_get table p ≡ Some (Some n) → AreGood table n.reach
  pub reached : IsHonest before → (p : ℕ) (n : Node) (f : Face) → slice_get table p ≡ Some (Some n) → Checked tree p (Accepts f) → (r : ℕ) → Contains n.reach r ↔ Reaches tree r f

-- The row of a package with this export text: of those of its environment that the text mentions, and what is reached from these. A text
-- that spells nothing mentions any.
pub record IsRowOf (tree : List PackageTexts) (table : List (Option Node)) (env : List ℕ) (text : List ℕ) (row : List ℕ) : Type 0 where
  pub paths : List (List ℕ)
  pub told : (f : Face) → IsFaceText f text → AreMentions f paths
  pub is : row ≡ merged table (of_paths tree paths env)

-- p isn't done, and all that its load needs is
pub record IsReady (tree : List PackageTexts) (table : List (Option Node)) (p : ℕ) : Type 0 where
  pub pack : PackageTexts
  pub at : slice_get tree p ≡ Some pack
  pub waits : slice_get table p ≡ Some None
  pub sound : pack.sound ≡ true
  pub accepted : AreGood table pack.imports

abbrev pub imports_in : PackageTexts → List ℕ
imports_in pack = pack.imports

-- the inputs of the loads and the runs that were missing, in turn
abbrev pub fresh_in : Option Node → List Input
fresh_in None = []
fresh_in (Some n) = fresh_node n

abbrev pub fresh_inputs : List (Option Node) → List Input
fresh_inputs [] = []
fresh_inputs (o ∷ more) = fresh_in o ++ fresh_inputs more

abbrev pub weight : Option Node → ℕ
weight None = 1
weight (Some n) = 0

-- how many packages aren't done
abbrev pub waiting : List (Option Node) → ℕ
waiting table = sum_by weight table

-- how many nodes a package has
abbrev pub nodes_in : Option Node → ℕ
nodes_in None = 0
nodes_in (Some n) = suc (length n.runs)

-- how many of them were missing
abbrev pub missing_in : Option Node → ℕ
missing_in o = length (fresh_in o)

-- whether its load was executed, as 1 or 0
abbrev pub loads_in : Option Node → ℕ
loads_in o = one_of (fresh_in o)

-- how many of its runs were
abbrev pub runs_in : Option Node → ℕ
runs_in None = 0
runs_in (Some n) = length (fresh_runs n.runs)

-- how many loads and runs the nodes of the table took
abbrev pub executed : List (Option Node) → ℕ
executed table = sum_by loads_in table

abbrev pub executed_runs : List (Option Node) → ℕ
executed_runs table = sum_by runs_in table
