use Rattle.std.proofs.Common.{◌≡◌, ◌++◌, ℕ, List, take, nat_eq}
use Rattle.literal_rules.specs.Again.{is_empty_at}
use Rattle.literal_rules.proofs.again.has_empty.Given as goal
use Rattle.rule_words.specs.Again.{any_of}

abbrev pub invariant-loop-i : goal.invariant-loop-i
invariant-loop-i l = l.found ≡ any_of (is_empty_at l.places) l.i
