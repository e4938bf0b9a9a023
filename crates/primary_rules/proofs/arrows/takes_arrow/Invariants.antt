use Rattle.std.proofs.Common.{◌≡◌}
use Rattle.primary_rules.specs.Arrows.{takes_arrow}
use Rattle.primary_rules.proofs.arrows.takes_arrow.Given as goal

abbrev pub invariant-inward : goal.invariant-inward
invariant-inward l = takes_arrow l.nodes l.fn.n ≡ takes_arrow l.nodes l.at

abbrev pub decreases-inward : goal.decreases-inward
decreases-inward l = l.at
