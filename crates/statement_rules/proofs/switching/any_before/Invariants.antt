use Rattle.std.proofs.Common.{◌≡◌}
use Rattle.statement_rules.specs.Switching.{any_before}
use Rattle.statement_rules.proofs.switching.any_before.Given as goal

abbrev pub invariant-back : goal.invariant-back
invariant-back l = any_before l.nodes l.around l.slot ≡ any_before l.nodes l.around l.i

abbrev pub decreases-back : goal.decreases-back
decreases-back l = l.i
