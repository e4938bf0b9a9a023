use Rattle.import_graph.proofs.SourceLemmas.{Parted}
use Rattle.import_graph.proofs.source.are_plain.Given as goal

abbrev pub invariant-loop-at : goal.invariant-loop-at
invariant-loop-at l = Parted l.path l.at l.end l.plain

abbrev pub decreases-loop-at : goal.decreases-loop-at
decreases-loop-at l = l.at
