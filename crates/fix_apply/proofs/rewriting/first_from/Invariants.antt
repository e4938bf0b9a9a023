use Rattle.std.proofs.Common.{length, ◌-◌}
use Rattle.fix_apply.specs.Spots.{IsPassed}
use Rattle.fix_apply.proofs.rewriting.first_from.Given as goal

abbrev pub invariant-loop-first : goal.invariant-loop-first
invariant-loop-first l = IsPassed l.spots l.first l.at

abbrev pub decreases-loop-first : goal.decreases-loop-first
decreases-loop-first l = length l.spots - l.first
