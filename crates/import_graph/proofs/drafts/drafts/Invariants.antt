use Rattle.import_graph.specs.Tables.{AreDrafts}
use Rattle.import_graph.proofs.drafts.drafts.Given as goal

abbrev pub invariant-loop-k : goal.invariant-loop-k
invariant-loop-k l = AreDrafts l.heads l.names l.modules l.stubs l.k l.drafts.items
