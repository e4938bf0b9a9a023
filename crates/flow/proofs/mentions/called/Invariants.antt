use Rattle.flow.specs.Search.{AreCalled}
use Rattle.flow.proofs.mentions.called.Given as goal

abbrev pub invariant-loop-p : goal.invariant-loop-p
invariant-loop-p l = AreCalled l.calls l.points l.p-index l.found.items
