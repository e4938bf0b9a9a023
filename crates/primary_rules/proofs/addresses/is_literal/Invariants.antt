use Rattle.std.proofs.Common.{◌≡◌}
use Rattle.primary_rules.specs.Addresses.{is_literal}
use Rattle.primary_rules.proofs.addresses.is_literal.Given as goal

abbrev pub invariant-inward : goal.invariant-inward
invariant-inward l = is_literal l.nodes l.fn.n ≡ is_literal l.nodes l.at

abbrev pub decreases-inward : goal.decreases-inward
decreases-inward l = l.at
