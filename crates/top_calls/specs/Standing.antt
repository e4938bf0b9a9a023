-- Where a session or a run stands.
use Rattle.std.specs.Prelude.{ℕ, List, [], Bool, false, Option}
use Rattle.analysis_core.specs.declared.reply.Counts.{Counts}
use Rattle.analysis_core.specs.Replies.{no_counts}
use Rattle.tree_runs.specs.Reports.{Tree, Entries}

-- Its tree; whether the last run found something; what earlier loads and runs of analyzers gave; the numbers of the last run; how many loads and how many runs of analyzers
-- all runs together did; and what the keeper is to hold.
pub record Standing : Type 0 where
  pub tree : Tree
  pub found : Bool
  pub cache : Entries
  pub counts : Counts
  pub loads : ℕ
  pub runs : ℕ
  pub kept : Option (List ℕ)

-- before the first command, over a tree, a cache and what the keeper holds
abbrev pub start_at : Tree → Entries → Option (List ℕ) → Standing
start_at tree cache kept = record { tree = tree; found = false; cache = cache; counts = no_counts; loads = 0; runs = 0; kept = kept }

abbrev pub with_tree : Standing → Tree → Standing
with_tree old tree = record { tree = tree; found = old.found; cache = old.cache; counts = old.counts; loads = old.loads; runs = old.runs; kept = old.kept }
