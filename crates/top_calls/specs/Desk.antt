-- What a session holds, as the place where it stands; and what its steps do to it.
use Rattle.std.specs.Prelude.{◌≡◌, ◌⊎◌, ℕ, ◌+◌, ◌-◌, ◌≤◌, List, [], Bool, true, false, if◌then◌else◌, Option, None, Some}
use Rattle.folder.specs.Folders.{AreAtPaths}
use Rattle.tree_runs.specs.Reports.{Work, Entries, HasCircle, HasText, IsHeard, IsHonest, CacheSpelled, Tree}
use Rattle.top_calls.specs.declared.options.ToolOptions.{ToolOptions}
use Rattle.top_calls.specs.declared.desk.Desk.{Desk}
use Rattle.top_calls.specs.declared.desk.Answer.{Answer}
use Rattle.top_calls.specs.declared.stop.Cut.{Cut}
use Rattle.top_calls.specs.Standing.{Standing}
use Rattle.top_calls.specs.Deeds.{Deed, Acts, IsRun}
use Rattle.top_calls.specs.Ends.{may, ignored_line, Storing}
use Rattle.top_calls.specs.Outcome.{Opens}

-- the place of a desk, with the work done so far and what the keeper is to hold
abbrev pub standing_of : Desk → ℕ → ℕ → Option (List ℕ) → Standing
standing_of desk loads runs kept = record { tree = desk.files; found = desk.found; cache = desk.cache; counts = desk.counts; loads = loads; runs = runs; kept = kept }

-- each file stands at a path, and what was read for the last run is as it was read
pub record IsReady (desk : Desk) : Type 0 where
  pub paths : AreAtPaths desk.files
  pub heard : IsHeard desk.heard

abbrev pub more_loads : Work → Work → ℕ
more_loads kits kits' = kits'.loads - kits.loads

abbrev pub more_runs : Work → Work → ℕ
more_runs kits kits' = kits'.runs - kits.runs

-- The deed is done. After a run the keeper is to hold the text of its cache. Over an honest cache the kits' counts didn't fall.
pub record Serves (options : ToolOptions) (deed : Deed) (old new : Desk) (kits kits' : Work) (answer : Answer) : Type 0 where
  pub does : (loads runs : ℕ) (kept : Option (List ℕ)) (text : List ℕ) → (answer.ran ≡ true → CacheSpelled new.cache text)
      → Acts options deed (standing_of old loads runs kept) (standing_of new (loads + more_loads kits kits') (runs + more_runs kits kits') (if answer.ran then Some text else kept)) answer.reply
  pub text : answer.ran ≡ true → HasText new.cache
  pub loads : IsHonest old.cache → kits.loads ≤ kits'.loads
  pub runs : IsHonest old.cache → kits.runs ≤ kits'.runs

-- the deed isn't done whole, and no more work was done than it asks for
pub record Tries (options : ToolOptions) (deed : Deed) (old : Desk) (kits kits' : Work) : Type 0 where
  pub loads : IsHonest old.cache → (loads runs : ℕ) (kept : Option (List ℕ)) (next : Standing) (reply : List ℕ) → Acts options deed (standing_of old loads runs kept) next reply
      → loads + more_loads kits kits' ≤ next.loads
  pub runs : IsHonest old.cache → (loads runs : ℕ) (kept : Option (List ℕ)) (next : Standing) (reply : List ℕ) → Acts options deed (standing_of old loads runs kept) next reply
      → runs + more_runs kits kits' ≤ next.runs

-- the deed is a run, and the rules of a package of the tree go in a circle
abbrev pub IsStuckRun : Deed → Tree → Type 0
IsStuckRun deed tree = IsRun deed × HasCircle tree

-- what a keeper holds, where it tells
abbrev pub IsHeld : Option (Option (List ℕ)) → Option (List ℕ) → Type 0
IsHeld None kept = Unit {0}
IsHeld (Some held) kept = held ≡ kept

-- the keeper holds the text of the cache
pub record HoldsText (cache : Entries) (held : Option (Option (List ℕ))) : Type 0 where
  pub text : List ℕ
  pub spelled : CacheSpelled cache text
  pub holds : IsHeld held (Some text)

-- the keeper holds what it held, or the text of the cache
abbrev pub HoldsEither : Entries → Option (Option (List ℕ)) → Option (Option (List ℕ)) → Type 0
HoldsEither cache old new = (new ≡ old) ⊎ HoldsText cache new

pub record FailsToKeep (cache : Entries) (old new : Option (Option (List ℕ))) (cut : Cut) : Type 0 where
  pub allowed : may cut Storing ≡ true
  pub either : HoldsEither cache old new

-- the line that goes out first
abbrev pub greeting_of : Bool → List ℕ
greeting_of true = ignored_line
greeting_of false = []

-- what was found at the keeper, and the cache with which the call begins
pub record Finds (held : Option (Option (List ℕ))) (cache : Entries) (ignored : Bool) : Type 0 where
  pub kept : Option (List ℕ)
  pub holds : IsHeld held kept
  pub opens : Opens kept cache (greeting_of ignored)
