use Rattle.import_graph.specs.Tables.{AreBuilt}
use Rattle.import_graph.proofs.listing.all_built.Given as goal

abbrev pub invariant-loop-k : goal.invariant-loop-k
invariant-loop-k l = AreBuilt l.heads l.names l.drafts l.flags l.k l.packages.items
