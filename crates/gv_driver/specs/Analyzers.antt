-- The analyzers that run over a package.
use Rattle.std.specs.Prelude.{◌≡◌, ℕ, zero, suc, ◌+◌, ◌==◌, ◌&&◌, ◌^◌, ◌/◌, ◌%◌, Bool, true, false, if◌then◌else◌, List, [], ◌∷◌, ◌++◌, Some, slice_get}
use Rattle.action_graph.specs.Work.{IsAnalyzer, has_facts, has_runs}

-- the bit of the analyzer is set
abbrev pub is_chosen : ℕ → ℕ → Bool
is_chosen only a = only / 2 ^ a % 2 == 1

-- over a stub package those run that have facts
abbrev pub is_due : Bool → ℕ → Bool
is_due stub a = if stub then has_facts a else true

-- Of the analyzers that are there those run that are chosen and due.
abbrev pub is_run : ℕ → Bool → ℕ → Bool
is_run only stub a = (is_chosen only a && is_due stub a) && has_runs a

abbrev pub one_run : Bool → ℕ → List ℕ
one_run true a = a ∷ []
one_run false a = []

-- the first so many of those from 1 to 15 that run over a package, in order
abbrev pub first_analyzers : ℕ → Bool → ℕ → List ℕ
first_analyzers only stub zero = []
first_analyzers only stub (suc k) = first_analyzers only stub k ++ one_run (is_run only stub (suc k)) (suc k)

-- The analyzers that run over a package, a stub or not, in order.
unfoldable pub analyzers_of : ℕ → Bool → List ℕ
analyzers_of only stub = first_analyzers only stub 15

-- these are numbers of analyzers
abbrev pub AreAnalyzers : List ℕ → Type 0
AreAnalyzers numbers = (k a : ℕ) → slice_get numbers k ≡ Some a → IsAnalyzer a
