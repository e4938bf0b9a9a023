-- The nodes of one package while they are made.
use Rattle.std.specs.Prelude.{◌≡◌, ℕ, ◌+◌, ◌<◌, ◌≤◌, ◌^◌, Bool, true, false, Option, Some, None, List, [], ◌∷◌, ◌++◌, drop, take, map, length, slice_get, if◌then◌else◌}
use Rattle.action_graph.specs.declared.kit.LoadInput.{LoadInput}
use Rattle.action_graph.specs.declared.kit.RunInput.{RunInput}
use Rattle.action_graph.specs.declared.kit.RunOf.{RunOf}
use Rattle.action_graph.specs.declared.kit.RunOutcome.{RunOutcome}
use Rattle.action_graph.specs.Outcomes.{run_text}
use Rattle.action_graph.specs.Nodes.{Named, AreNamed}
use Rattle.action_graph.specs.Analyzing.{AreRunOutcomes, IsRunLawful, IsRunOutcome}
use Rattle.action_graph.specs.Judging.{IsLawful, IsOutcome, accepted_text}
use Rattle.handed_facts.specs.Handed.{ArePathsApart}
use Rattle.fact_cache.specs.declared.texts.Input.{Input}
use Rattle.fact_cache.specs.declared.list.Entry.{Entry}
use Rattle.gv_driver.specs.declared.node.Answer.{Answer}
use Rattle.gv_driver.specs.declared.node.Begun.{Begun}
use Rattle.gv_driver.specs.declared.node.Loading.{Loading}
use Rattle.gv_driver.specs.declared.node.Node.{Node}
use Rattle.gv_driver.specs.declared.node.RunNode.{RunNode}
use Rattle.gv_driver.specs.Analyzers.{AreAnalyzers}
use Rattle.gv_driver.specs.Caches.{IsHonest, is_cached, left_of, missing_of, one_of}
use Rattle.gv_driver.specs.Loads.{load_input, run_key, run_keys, run_over}
use Rattle.gv_driver.specs.Tables.{answer_text, chosen_if, fresh_node, fresh_runs, is_good, numbers_in}
use Rattle.gv_driver.specs.Tallies.{Tally}

abbrev pub digit : Bool → ℕ
digit true = 1
digit false = 0

-- how many runs a node takes, which is found or not
abbrev pub cost : Bool → ℕ
cost true = 0
cost false = 1

-- whether the load was executed after a node, if it was so before: it is where the node isn't found
abbrev pub spent : Bool → Bool → Bool
spent tried found = if found then tried else true

-- and after nodes in turn
abbrev pub spent_by : List Entry → Bool → List Input → Bool
spent_by cache tried [] = tried
spent_by cache tried (input ∷ more) = spent_by cache (spent tried (is_cached cache input)) more

-- a load of this input accepts
pub record IsAccepting (load : LoadInput) : Type 0 where
  pub export : List ℕ
  pub outcome : IsOutcome load (accepted_text export)

-- What was loaded is what the input gives and can be taken back, and it is there if the input is lawful and accepted.
pub record IsLoading {L : Type 0} (is_of : L → LoadInput → Type 0) (keeps : L → Type 0) (load : LoadInput) (loading : Loading L) : Type 0 where
  pub held : (l : L) → loading.loaded ≡ Some l → is_of l load × keeps l
  pub there : loading.tried ≡ true → IsLawful load → IsAccepting load → (l : L) × (loading.loaded ≡ Some l)

-- the facts for each analyzer are of packages with a path
abbrev pub AllNamed : (ℕ → List Named) → Type 0
AllNamed given = (a : ℕ) → AreNamed (given a)

-- of each package an analyzer is given facts once
abbrev pub AllApart : (ℕ → List Named) → Type 0
AllApart given = (a : ℕ) → ArePathsApart (given a)

-- a load whose runs a kit can be asked for, and whose runs an honest cache may have
pub record IsFit (given : ℕ → List Named) (cache : List Entry) (load : LoadInput) : Type 0 where
  pub honest : IsHonest cache
  pub lawful : IsLawful load
  pub accepting : IsAccepting load
  pub named : AllNamed given

-- a run that a kit can be asked for
pub record IsRunFit (run : RunInput) : Type 0 where
  pub lawful : IsRunLawful run
  pub accepting : IsAccepting run.load

-- these are the runs of these analyzers
pub record AreRuns (given : ℕ → List Named) (cache : List Entry) (load : LoadInput) (numbers : List ℕ) (nodes : List RunNode) : Type 0 where
  pub numbers_are : numbers_in nodes ≡ numbers
  pub fresh : fresh_runs nodes ≡ missing_of cache (run_keys given load numbers)
  pub left : (k : ℕ) (n : RunNode) → slice_get nodes k ≡ Some n → n.fresh ≡ left_of cache (run_key given load n.analyzer)
  pub right : IsFit given cache load → (k : ℕ) (n : RunNode) → slice_get nodes k ≡ Some n → IsRunOutcome (run_over given n.analyzer load) n.outcome
  pub short : (k : ℕ) (n : RunNode) → slice_get nodes k ≡ Some n → length n.outcome < 2 ^ 64

-- what a run reads beside the load
abbrev pub asked_of : (ℕ → List Named) → ℕ → RunOf
asked_of given a = record { analyzer = a; facts = given a }

abbrev pub asked_if : Option Input → RunOf → List RunOf
asked_if None r = []
asked_if (Some i) r = r ∷ []

-- of those of these runs that are missing
abbrev pub asked_in : (ℕ → List Named) → List RunNode → List RunOf
asked_in given [] = []
asked_in given (n ∷ more) = asked_if n.fresh (asked_of given n.analyzer) ++ asked_in given more

-- these runs are looked up: those that the cache has, have their outcome
pub record AreSought (given : ℕ → List Named) (cache : List Entry) (load : LoadInput) (numbers : List ℕ) (nodes : List RunNode) : Type 0 where
  pub numbers_are : numbers_in nodes ≡ numbers
  pub fresh : fresh_runs nodes ≡ missing_of cache (run_keys given load numbers)
  pub left : (k : ℕ) (n : RunNode) → slice_get nodes k ≡ Some n → n.fresh ≡ left_of cache (run_key given load n.analyzer)
  pub found : IsFit given cache load → (k : ℕ) (n : RunNode) → slice_get nodes k ≡ Some n → n.fresh ≡ None → IsRunOutcome (run_over given n.analyzer load) n.outcome
  pub short : (k : ℕ) (n : RunNode) → slice_get nodes k ≡ Some n → length n.outcome < 2 ^ 64

abbrev pub with_text : RunNode → List ℕ → RunNode
with_text n text = record { analyzer = n.analyzer; fresh = n.fresh; outcome = text }

abbrev pub first_or : List (List ℕ) → List ℕ → List ℕ
first_or [] own = own
first_or (text ∷ texts) own = text

-- a missing run takes the next text
abbrev pub text_for : Option Input → List (List ℕ) → List ℕ → List ℕ
text_for None texts own = own
text_for (Some i) texts own = first_or texts own

abbrev pub texts_after : Option Input → List (List ℕ) → List (List ℕ)
texts_after None texts = texts
texts_after (Some i) texts = drop 1 texts

-- with these texts, in turn, for the missing ones
abbrev pub filled : List RunNode → List (List ℕ) → List RunNode
filled [] texts = []
filled (n ∷ more) texts = with_text n (text_for n.fresh texts n.outcome) ∷ filled more (texts_after n.fresh texts)

-- these are the outcomes of the runs that were asked for
pub record HasAnswered (load : LoadInput) (asked : List RunOf) (outcomes : List RunOutcome) : Type 0 where
  pub size : length outcomes ≡ length asked
  pub right : AreRunOutcomes load asked outcomes

-- the missing ones have what comes of them
pub record IsFilled (load : LoadInput) (asked : List RunOf) (before after : List RunNode) : Type 0 where
  pub outcomes : List RunOutcome
  pub is : after ≡ filled before (map run_text outcomes)
  pub answered : IsLawful load → IsAccepting load → HasAnswered load asked outcomes

abbrev pub AreShortRuns : List RunNode → Type 0
AreShortRuns nodes = (k : ℕ) (n : RunNode) → slice_get nodes k ≡ Some n → length n.outcome < 2 ^ 64

-- whether the load is executed after these runs are asked for
abbrev pub tried_after : Bool → List RunOf → Bool
tried_after tried [] = tried
tried_after tried (r ∷ asked) = true

-- No more was executed than what nodes with these inputs need.
pub record Spends (cache : List Entry) (keys : List Input) (before after : Bool) (count now : Tally) : Type 0 where
  pub tried : digit after ≤ digit (spent_by cache before keys)
  pub loads : now.loads + digit before ≡ count.loads + digit after
  pub runs : now.runs ≤ count.runs + length (missing_of cache keys)

-- a package's load, looked up or executed
pub record IsOpened {L : Type 0} (is_of : L → LoadInput → Type 0) (keeps : L → Type 0) (cache : List Entry) (load : LoadInput) (begun : Begun L) : Type 0 where
  pub left : begun.fresh ≡ left_of cache (load_input load)
  pub tried : begun.loading.tried ≡ spent false (is_cached cache (load_input load))
  pub right : IsHonest cache → IsLawful load → IsOutcome load (answer_text begun.answer)
  pub loading : IsLoading is_of keeps load begun.loading

-- A package's nodes are made: its load, and where it is accepted the runs of these analyzers.
pub record IsMade (given : ℕ → List Named) (cache : List Entry) (load : LoadInput) (numbers : List ℕ) (n : Node) : Type 0 where
  pub left : n.fresh ≡ left_of cache (load_input load)
  pub right : IsHonest cache → IsLawful load → IsOutcome load (answer_text n.answer)
  pub runs : AreRuns given cache load (chosen_if (is_good n.answer) numbers) n.runs

-- This is what they took.
pub record Takes (given : ℕ → List Named) (cache : List Entry) (load : LoadInput) (numbers : List ℕ) (n : Node) (count now : Tally) : Type 0 where
  pub loads : now.loads ≡ count.loads + one_of (fresh_node n)
  pub runs : IsHonest cache → IsLawful load → AllNamed given → now.runs ≡ count.runs + length (fresh_runs n.runs)
  pub bound : now.runs ≤ count.runs + length (fresh_runs n.runs)
  pub most : now.runs ≤ count.runs + length numbers

-- A package's nodes were begun: no more was executed than what its load and the first of its runs need. Where a run is among these, the load
-- accepts.
pub record IsBegun (given : ℕ → List Named) (cache : List Entry) (load : LoadInput) (numbers : List ℕ) (count now : Tally) : Type 0 where
  pub done : ℕ
  pub accepting : 0 < done → IsHonest cache → IsLawful load → IsAccepting load
  pub loads : now.loads ≤ count.loads + one_of (missing_of cache (load_input load ∷ run_keys given load (take done numbers)))
  pub runs : now.runs ≤ count.runs + length (missing_of cache (run_keys given load (take done numbers)))
