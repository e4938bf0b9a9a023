-- That each tree that can be read, and in which no package is stuck, has a report: a statement of existence is the denial that there is none.
use Rattle.std.specs.Prelude.{ℕ, List}
use Rattle.analysis_core.specs.declared.command.Command.{Command}
use Rattle.gv_base.specs.Files.{Entry, AreInOrder}
use Rattle.fact_cache.specs.declared.list.Entry.{Entry as Kept}
pub use Rattle.gv_driver.specs.Existence.{AllHaveOutcomes, AllRunsHaveOutcomes}
use Rattle.tree_report.specs.Form.{HasReading}
use Rattle.tree_report.specs.Reports.{HasCircle, Reports}
use Rattle.analysis_core.specs.declared.reply.Reply.{Reply}

-- the tree, where it can be read and no package is stuck, isn't without a reply over this cache, as it is asked
abbrev pub HasReport : Command → ℕ → List Entry → List Kept → Type 0
HasReport asked only tree before = HasReading tree → (HasCircle tree → ⊥) → ((after : List Kept) (reply : Reply) → Reports asked only tree before after reply → ⊥) → ⊥
