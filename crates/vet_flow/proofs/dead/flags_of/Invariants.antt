use Rattle.vet_flow.specs.Unreachable.{AreSet}
use Rattle.vet_flow.proofs.dead.flags_of.Given as goal

abbrev pub invariant-loop-i : goal.invariant-loop-i
invariant-loop-i l = AreSet l.numbers l.i l.count l.flags.items
