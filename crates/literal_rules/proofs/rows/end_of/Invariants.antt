use Rattle.std.proofs.Common.{◌≡◌, ◌++◌, ℕ, List, take, nat_eq}
use Rattle.literal_rules.specs.Rows.{end_after}
use Rattle.literal_rules.proofs.rows.end_of.Given as goal

abbrev pub invariant-loop-i : goal.invariant-loop-i
invariant-loop-i l = l.end ≡ end_after l.places l.i
