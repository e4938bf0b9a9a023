-- Honest caches, what a run executes, and what it leaves in a cache.
use Rattle.std.specs.Prelude.{◌≡◌, ℕ, ◌<◌, ◌⊎◌, Bool, true, false, Option, Some, None, List, [], ◌∷◌, ◌++◌, drop, map, length, sum_by, if◌then◌else◌}
use Rattle.fact_cache.specs.declared.texts.Input.{Input}
use Rattle.fact_cache.specs.declared.list.Entry.{Entry}
use Rattle.fact_cache.specs.Caches.{lookup, trimmed}
use Rattle.action_graph.specs.Analyzing.{IsRunOutcomeOf}
use Rattle.action_graph.specs.Judging.{IsOutcomeOf}

-- the entry of a load or of a run, with what comes of its input
abbrev pub IsRight : Entry → Type 0
IsRight e = ((e.input.node ≡ 0) × IsOutcomeOf e.input.texts e.outcome) ⊎ ((0 < e.input.node) × IsRunOutcomeOf e.input.node e.input.texts e.outcome)

-- each entry is right
abbrev pub IsHonest : List Entry → Type 0
IsHonest [] = Unit {0}
IsHonest (e ∷ es) = IsRight e × IsHonest es

abbrev pub is_found : Option (List ℕ) → Bool
is_found None = false
is_found (Some o) = true

-- the cache has an outcome of this input
abbrev pub is_cached : List Entry → Input → Bool
is_cached cache input = is_found (lookup cache input)

-- the input, but where the cache has an outcome of it
abbrev pub left_of : List Entry → Input → Option Input
left_of cache input = if is_cached cache input then None else Some input

-- the inputs, in turn, for which the cache has no outcome
abbrev pub missing_of : List Entry → List Input → List Input
missing_of cache [] = []
missing_of cache (input ∷ more) = if is_cached cache input then missing_of cache more else (input ∷ missing_of cache more)

abbrev pub one_of : List Input → ℕ
one_of [] = 0
one_of (input ∷ more) = 1

-- of the inputs of a package's nodes, the load's first: the load is executed where one of them is missing, its own or a run's
abbrev pub load_cost : List Entry → List Input → ℕ
load_cost cache inputs = one_of (missing_of cache inputs)

-- and each run whose input is missing
abbrev pub run_cost : List Entry → List Input → ℕ
run_cost cache inputs = length (missing_of cache (drop 1 inputs))

-- how many loads are executed, and how many runs
abbrev pub loads_of : List Entry → List (List Input) → ℕ
loads_of cache plan = sum_by (load_cost cache) plan

abbrev pub runs_of : List Entry → List (List Input) → ℕ
runs_of cache plan = sum_by (run_cost cache) plan

abbrev pub input_of : Entry → Input
input_of e = e.input

-- The old entries, and then right ones of exactly the missing inputs, in turn; of all these without the oldest, until the
-- limits of a cache hold.
pub record IsCacheAfter (before after : List Entry) (inputs : List Input) : Type 0 where
  pub added : List Entry
  pub is : after ≡ trimmed (before ++ added)
  pub whole : map input_of added ≡ missing_of before inputs
  pub right : IsHonest added

-- The old entries, and then right ones of the first of the missing inputs; of all these without the oldest, until the
-- limits of a cache hold.
pub record IsPartKept (before after : List Entry) (inputs : List Input) : Type 0 where
  pub added : List Entry
  pub more : List Input
  pub is : after ≡ trimmed (before ++ added)
  pub part : map input_of added ++ more ≡ missing_of before inputs
  pub right : IsHonest added
