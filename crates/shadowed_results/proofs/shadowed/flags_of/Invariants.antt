use Rattle.shadowed_results.specs.InCode.{is_flagged, AreValues}
use Rattle.shadowed_results.proofs.shadowed.flags_of.Given as goal

abbrev pub invariant-loop-n : goal.invariant-loop-n
invariant-loop-n l = AreValues (is_flagged l.tree l.answers) l.n l.flags.items
