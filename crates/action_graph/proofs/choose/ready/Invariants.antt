use Rattle.action_graph.specs.Ready.{AreReadyBelow}
use Rattle.action_graph.proofs.choose.ready.Given as goal

abbrev pub invariant-loop-at : goal.invariant-loop-at
invariant-loop-at l = AreReadyBelow l.done l.accepted l.packages l.env l.only l.at l.nodes.items
