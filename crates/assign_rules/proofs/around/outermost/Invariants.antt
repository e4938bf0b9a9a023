use Rattle.std.proofs.Common.{◌≡◌}
use Rattle.unit_read.specs.Subjects.{unit_of}
use Rattle.assign_rules.specs.Around.{wrapped}
use Rattle.assign_rules.proofs.around.outermost.Given as goal

abbrev pub invariant-loop-i : goal.invariant-loop-i
invariant-loop-i l = l.at ≡ wrapped (unit_of l.u) l.file l.i l.n
