-- What makes a function one that never returns, where these are the functions that don't.
use Rattle.std.specs.Prelude.{ℕ, ◌≡◌, ◌⊎◌, Bool, true, false, List, Option, Some}
use Rattle.go_tree.specs.declared.tree.FileTree.{FileTree}
use Rattle.flow.specs.Edges.{before}
use Rattle.flow.specs.Flow.{Leads, Reached, NeverReturns}
use Rattle.least.specs.Staged.{Sees}
use Rattle.least.specs.Tables.{Member, home}

-- what an expression statement calls, as it is told: nothing that matters, `panic`, or a function or method by name
pub data Callee : Type 0 where
  Other : Callee
  Panic : Callee
  Named : Member → Callee

-- the call stops control
abbrev pub stops : (Member → Bool) → Callee → Bool
stops N Other = false
stops N Panic = true
stops N (Named m) = N m

-- the body of a function: the tree of its file, the labeled statements that jumps denote, what expression statements call, and its block
pub record Body : Type 0 where
  pub tree : FileTree
  pub labels : List (Option ℕ)
  pub callee : ℕ → Callee
  pub block : ℕ

-- A function is admitted if it is listed, or if it has a body of which neither a return nor the end is reached.
abbrev pub Admits : (Member → Bool) → (Member → Option Body) → (Member → Bool) → Member → Type 0
Admits listed bodies N m = (listed m ≡ true) ⊎ ((b : Body) × (bodies m ≡ Some b) × NeverReturns b.tree b.labels (λ n. stops N (b.callee n)) b.block)

-- a statement to which the body's control leads, where no call stops it, calls the function
abbrev pub Calls : Body → Member → Type 0
Calls b m = (n : ℕ) × Reached (Leads b.tree b.labels) (before b.block) (before n) × (b.callee n ≡ Named m)

-- what a body calls is in the function's package or in its environment
abbrev pub SeeTheirCallees : (List ℕ → List ℕ → Type 0) → (Member → Option Body) → Type 0
SeeTheirCallees env bodies = (m : Member) (b : Body) → bodies m ≡ Some b → (g : Member) → Calls b g → Sees home env (home m) g

-- the environment of the package p has q, as a test tells
abbrev pub Has : (List ℕ → List ℕ → Bool) → List ℕ → List ℕ → Type 0
Has env p q = env p q ≡ true
