-- What the laws of a report and of a cache say, as a premise: a call of the laws in the code gives it.
use Rattle.std.proofs.Common.{◌≡◌, ◌<◌, ◌^◌, ℕ, List, [], length}
use Rattle.tree_runs.specs.declared.report.TreeReport.{TreeReport}
use Rattle.tree_runs.specs.declared.report.Task.{Task}
use Rattle.tree_runs.specs.Reports.{Tree, Entries, IsHonest, Reports, CacheSpelled}

pub record RunLaws : Type 0 where
  pub report : (tree : Tree) (task : Task) (before after other : Entries) (a b : TreeReport) → Reports tree task before after a → Reports tree task before other b → a ≡ b
  pub cache : (tree : Tree) (task : Task) (before after other : Entries) (a b : TreeReport) → Reports tree task before after a → Reports tree task before other b → after ≡ other
  pub fresh : IsHonest []
  pub honest : (tree : Tree) (task : Task) (before after : Entries) (a : TreeReport) → IsHonest before → Reports tree task before after a → IsHonest after
  pub text : (cache : Entries) (a b : List ℕ) → CacheSpelled cache a → CacheSpelled cache b → a ≡ b
  pub value : (c d : Entries) (bytes : List ℕ) → length bytes < 2 ^ 64 → CacheSpelled c bytes → CacheSpelled d bytes → c ≡ d
