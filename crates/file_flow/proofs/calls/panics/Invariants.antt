use Rattle.file_flow.proofs.PanicLemmas.{AreRight}
use Rattle.file_flow.proofs.calls.panics.Given as goal

abbrev pub invariant-loop-n : goal.invariant-loop-n
invariant-loop-n l = AreRight l.bytes l.tree l.n l.flags.items
