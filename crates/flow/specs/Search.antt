-- How far a search has come.
use Rattle.std.specs.Prelude.{ℕ, suc, ◌≡◌, ◌⊎◌, ◌<◌, ◌≤◌, ◌+◌, ◌/◌, ◌%◌, ◌==◌, ◌↔◌, Bool, true, false, List, [], ◌∷◌, ◌++◌, length, get_or, slice_index_or, cond, nat_eq, Option, Some, None}
use Rattle.std.specs.List.{Contains}
use Rattle.go_tree.specs.declared.tree.FileTree.{FileTree}
use Rattle.flow.specs.declared.point.Call.{Call}
use Rattle.flow.specs.declared.point.Call.TheVariants as c
use Rattle.flow.specs.Edges.{before}
use Rattle.flow.specs.Flow.{Reached, Leads, is_stopped, call_at, is_exit}

-- the targets of a point
abbrev pub row_at : List (List ℕ) → ℕ → List ℕ
row_at rows p = slice_index_or rows p []

abbrev pub StepsBy : List (List ℕ) → ℕ → ℕ → Type 0
StepsBy rows p q = Contains (row_at rows p) q

-- the rows say where control leads
abbrev pub IsGraph : FileTree → List (Option ℕ) → List (List ℕ) → Type 0
IsGraph tree labels rows = (p q : ℕ) → StepsBy rows p q ↔ Leads tree labels p q

-- the targets of a point from which control goes on
abbrev pub targets_from : List (List ℕ) → (ℕ → Bool) → ℕ → List ℕ
targets_from rows stops p = cond (is_stopped stops p) [] (row_at rows p)

-- a point is marked and listed, where it wasn't yet
pub record IsVisited (at : ℕ) (seen : ℕ → Bool) (found : List ℕ) (new_seen : ℕ → Bool) (new_found : List ℕ) : Type 0 where
  pub seen_same : seen at ≡ true → (q : ℕ) → new_seen q ≡ seen q
  pub found_same : seen at ≡ true → new_found ≡ found
  pub seen_more : seen at ≡ false → (q : ℕ) → new_seen q ≡ cond (nat_eq at q) true (seen q)
  pub found_more : seen at ≡ false → new_found ≡ found ++ at ∷ []

-- how many targets aren't marked
abbrev pub unseen : (ℕ → Bool) → List ℕ → ℕ
unseen seen [] = 0
unseen seen (t ∷ ts) = cond (seen t) (unseen seen ts) (suc (unseen seen ts))

abbrev pub all_unseen : (ℕ → Bool) → List (List ℕ) → ℕ
all_unseen seen [] = 0
all_unseen seen (row ∷ rows) = unseen seen row + all_unseen seen rows

-- the targets of a point were visited
pub record IsFollowed (rows : List (List ℕ)) (targets : List ℕ) (seen : ℕ → Bool) (found : List ℕ) (new_seen : ℕ → Bool) (new_found : List ℕ) : Type 0 where
  pub kept : (q : ℕ) → seen q ≡ true → new_seen q ≡ true
  pub each : (q : ℕ) → Contains targets q → new_seen q ≡ true
  pub more : List ℕ
  pub is : new_found ≡ found ++ more
  pub from : (q : ℕ) → Contains more q → Contains targets q
  pub marked : (q : ℕ) → Contains more q → new_seen q ≡ true
  pub listed : (q : ℕ) → new_seen q ≡ true → (seen q ≡ true) ⊎ Contains more q
  pub spent : all_unseen new_seen rows + length more ≤ all_unseen seen rows

-- What is listed is reached, and where those lead that were followed is marked. What is marked is listed.
pub record IsSearch (targets : ℕ → List ℕ) (start : ℕ) (seen : ℕ → Bool) (found : List ℕ) (next : ℕ) : Type 0 where
  pub begun : seen start ≡ true
  pub listed : (q : ℕ) → seen q ≡ true → Contains found q
  pub marked : (q : ℕ) → Contains found q → seen q ≡ true
  pub sound : (q : ℕ) → Contains found q → Reached (λ p r. Contains (targets p) r) start q
  pub settled : (k q : ℕ) → k < next → k < length found → Contains (targets (get_or found k 0)) q → seen q ≡ true

-- the function that is called, if it is one of those that have a number
abbrev pub function_of : Call → Option ℕ
function_of c.Passes = None
function_of c.Stops = None
function_of (c.Function f) = Some f

-- the function that the statement behind a point calls
abbrev pub called_at : List Call → ℕ → Option ℕ
called_at calls p = cond (p % 2 == 0) (function_of (call_at calls (p / 2))) None

abbrev pub with_one : List ℕ → Option ℕ → List ℕ
with_one found None = found
with_one found (Some f) = found ++ f ∷ []

-- what is called behind the first few points
pub record AreCalled (calls : List Call) (points : List ℕ) (few : ℕ) (found : List ℕ) : Type 0 where
  pub each : (f : ℕ) → Contains found f → (p : ℕ) × Contains points p × (called_at calls p ≡ Some f)
  pub every : (i f : ℕ) → i < few → called_at calls (get_or points i 0) ≡ Some f → Contains found f

-- the same as definitions of flow, of a graph's rows in place of a tree's statements

-- control may pass from one point to another
abbrev pub FlowBy : List (List ℕ) → (ℕ → Bool) → ℕ → ℕ → Type 0
FlowBy rows stops p q = (is_stopped stops p ≡ false) × StepsBy rows p q

-- neither a return nor the end is reached from the start of the body
abbrev pub NeverBy : FileTree → List (List ℕ) → (ℕ → Bool) → ℕ → Type 0
NeverBy tree rows stops body = (p : ℕ) → is_exit tree body p ≡ true → Reached (FlowBy rows stops) (before body) p → ⊥

-- the function of this number is called by a statement to which the body's control leads where no call stops it
abbrev pub MentionsBy : List (List ℕ) → List Call → ℕ → ℕ → Type 0
MentionsBy rows calls body f = (n : ℕ) × Reached (StepsBy rows) (before body) (before n) × (call_at calls n ≡ c.Function f)
