-- What is done, as a table of flags: at each node's place whether it is done.
use Rattle.std.specs.Prelude.{◌≡◌, ℕ, ◌+◌, ◌*◌, ◌<◌, Bool, true, false, List, length, slice_index_or}
use Rattle.std.specs.List.{Contains}
use Rattle.action_graph.specs.declared.work.ActionNode.{ActionNode}
use Rattle.action_graph.specs.declared.work.ActionNode.TheVariants.{Load, Run}
use Rattle.action_graph.specs.declared.work.PackageLine.{PackageLine}
use Rattle.action_graph.specs.Work.{place_of, IsNumbered, has_facts, IsChosen}

-- the flag at this place is set
abbrev pub IsSet : List Bool → ℕ → Type 0
IsSet flags at = slice_index_or flags at false ≡ true

-- Each of these nodes has its flag set, where the table has its place, and no other has.
pub record IsTable (nodes : List ActionNode) (flags : List Bool) : Type 0 where
  pub right : (n : ActionNode) → IsNumbered n → IsSet flags (place_of n) → Contains nodes n
  pub every : (n : ActionNode) → IsNumbered n → place_of n < length flags → Contains nodes n → IsSet flags (place_of n)

-- of each of these packages the node of this kind is marked: 0 for the load, else the analyzer's run
abbrev pub AreDone : List Bool → ℕ → List ℕ → Type 0
AreDone flags kind numbers = (q : ℕ) → Contains numbers q → IsSet flags (q * 16 + kind)

-- a load is ready, by the flags
pub record IsLoadMarked (flags accepted : List Bool) (line : PackageLine) (env : List ℕ) (p : ℕ) : Type 0 where
  pub sound : line.sound ≡ true
  pub waits : IsSet flags (p * 16) → ⊥
  pub imports : (q : ℕ) → Contains line.imports q → IsSet accepted q
  pub needs : AreDone flags 0 env

-- a run is ready, by the flags
pub record IsRunMarked (flags accepted : List Bool) (line : PackageLine) (env : List ℕ) (only a p : ℕ) : Type 0 where
  pub chosen : IsChosen only a
  pub stub : line.stub ≡ true → has_facts a ≡ true
  pub fit : IsSet accepted p
  pub waits : IsSet flags (p * 16 + a) → ⊥
  pub loaded : IsSet flags (p * 16)
  pub needs : has_facts a ≡ true → AreDone flags a env

abbrev pub IsMarkedAt : List Bool → List Bool → PackageLine → List ℕ → ℕ → ActionNode → Type 0
IsMarkedAt flags accepted line env only (Load p) = IsLoadMarked flags accepted line env p
IsMarkedAt flags accepted line env only (Run a p) = IsRunMarked flags accepted line env only a p
