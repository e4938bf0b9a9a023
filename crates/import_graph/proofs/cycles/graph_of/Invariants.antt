use Rattle.std.proofs.Common.{◌≡◌, take}
use Rattle.import_graph.specs.Tables.{imports_in}
use Rattle.import_graph.proofs.cycles.graph_of.Given as goal

abbrev pub invariant-loop-draft : goal.invariant-loop-draft
invariant-loop-draft l = l.graph ≡ imports_in (take l.draft-index l.drafts)
