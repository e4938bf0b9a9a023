use Rattle.std.proofs.Common.{ℕ, List, Option}
use Rattle.flow.specs.Passing.{flag_of, AreSurelyPassing}
use Rattle.flow.proofs.passing.surely_passing.Given as goal

abbrev pub invariant-loop-n : goal.invariant-loop-n
invariant-loop-n l = (labels : List (Option ℕ)) → AreSurelyPassing l.tree labels (flag_of l.stops) l.n l.flags.items
