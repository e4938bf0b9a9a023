-- The entries of what was executed, in node order.
use Rattle.std.specs.Prelude.{ℕ, Option, Some, None, List, [], ◌∷◌, ◌++◌}
use Rattle.fact_cache.specs.declared.texts.Input.{Input}
use Rattle.fact_cache.specs.declared.list.Entry.{Entry}
use Rattle.gv_driver.specs.declared.node.Node.{Node}
use Rattle.gv_driver.specs.declared.node.RunNode.{RunNode}
use Rattle.gv_driver.specs.Tables.{answer_text}

-- the entry of a node, where it was executed
abbrev pub entry_if : Option Input → List ℕ → List Entry
entry_if None outcome = []
entry_if (Some input) outcome = record { input = input; outcome = outcome } ∷ []

abbrev pub run_entries : List RunNode → List Entry
run_entries [] = []
run_entries (r ∷ more) = entry_if r.fresh r.outcome ++ run_entries more

abbrev pub entries_in : Option Node → List Entry
entries_in None = []
entries_in (Some n) = entry_if n.fresh (answer_text n.answer) ++ run_entries n.runs

abbrev pub all_entries : List (Option Node) → List Entry
all_entries [] = []
all_entries (o ∷ more) = entries_in o ++ all_entries more
