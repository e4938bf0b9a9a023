use Rattle.flow.specs.Passing.{flag_of, ArePassing}
use Rattle.flow.proofs.passing.passing.Given as goal

abbrev pub invariant-loop-n : goal.invariant-loop-n
invariant-loop-n l = ArePassing l.tree l.labels (flag_of l.stops) l.n l.flags.items
