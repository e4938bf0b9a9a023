-- Which nodes can be done next.
use Rattle.std.specs.Prelude.{◌≡◌, ℕ, ◌<◌, Bool, true, false, Some, List, length, slice_get, slice_index_or}
use Rattle.std.specs.List.{Contains}
use Rattle.action_graph.specs.declared.work.ActionNode.{ActionNode}
use Rattle.action_graph.specs.declared.work.ActionNode.TheVariants.{Load, Run}
use Rattle.action_graph.specs.declared.work.PackageLine.{PackageLine}
use Rattle.action_graph.specs.Work.{place_of, package_of, IsAnalyzer, has_facts, IsChosen}

-- Of a sound package all of whose imports are accepted: the load isn't done, and those of the environment are.
-- A number that is no package's has no load that is done.
pub record IsLoadReady (done : List ActionNode) (accepted : List Bool) (count : ℕ) (line : PackageLine) (env : List ℕ) (p : ℕ) : Type 0 where
  pub sound : line.sound ≡ true
  pub imports : (q : ℕ) → Contains line.imports q → slice_index_or accepted q false ≡ true
  pub waits : Contains done (Load p) → ⊥
  pub needs : (q : ℕ) → Contains env q → (q < count) × Contains done (Load q)

-- Of an accepted package and a chosen analyzer, for a stub one with facts: the run isn't done, while the load is and,
-- where the analyzer has facts, its runs over the environment are.
pub record IsRunReady (done : List ActionNode) (accepted : List Bool) (count : ℕ) (line : PackageLine) (env : List ℕ) (only a p : ℕ) : Type 0 where
  pub number : IsAnalyzer a
  pub fit : slice_index_or accepted p false ≡ true
  pub chosen : IsChosen only a
  pub stub : line.stub ≡ true → has_facts a ≡ true
  pub waits : Contains done (Run a p) → ⊥
  pub loaded : Contains done (Load p)
  pub needs : has_facts a ≡ true → (q : ℕ) → Contains env q → (q < count) × Contains done (Run a q)

abbrev pub IsReadyAt : List ActionNode → List Bool → ℕ → PackageLine → List ℕ → ℕ → ActionNode → Type 0
IsReadyAt done accepted count line env only (Load p) = IsLoadReady done accepted count line env p
IsReadyAt done accepted count line env only (Run a p) = IsRunReady done accepted count line env only a p

-- The node is of a package of the list, and can be done next.
pub record IsReady (done : List ActionNode) (accepted : List Bool) (packages : List PackageLine) (env : List (List ℕ)) (only : ℕ) (n : ActionNode) : Type 0 where
  pub line : PackageLine
  pub row : List ℕ
  pub at : slice_get packages (package_of n) ≡ Some line
  pub env_at : slice_get env (package_of n) ≡ Some row
  pub ready : IsReadyAt done accepted (length packages) line row only n

-- exactly the ready nodes whose place is below `end`, in order
pub record AreReadyBelow (done : List ActionNode) (accepted : List Bool) (packages : List PackageLine) (env : List (List ℕ)) (only end : ℕ) (nodes : List ActionNode) : Type 0 where
  pub each : (k : ℕ) (n : ActionNode) → slice_get nodes k ≡ Some n → IsReady done accepted packages env only n
  pub every : (n : ActionNode) → place_of n < end → IsReady done accepted packages env only n → Contains nodes n
  pub below : (k : ℕ) (n : ActionNode) → slice_get nodes k ≡ Some n → place_of n < end
  pub ordered : (j k : ℕ) (n m : ActionNode) → j < k → slice_get nodes j ≡ Some n → slice_get nodes k ≡ Some m → place_of n < place_of m

-- exactly the ready nodes, in order
pub record AreReady (done : List ActionNode) (accepted : List Bool) (packages : List PackageLine) (env : List (List ℕ)) (only : ℕ) (nodes : List ActionNode) : Type 0 where
  pub each : (k : ℕ) (n : ActionNode) → slice_get nodes k ≡ Some n → IsReady done accepted packages env only n
  pub every : (n : ActionNode) → IsReady done accepted packages env only n → Contains nodes n
  pub ordered : (j k : ℕ) (n m : ActionNode) → j < k → slice_get nodes j ≡ Some n → slice_get nodes k ≡ Some m → place_of n < place_of m
