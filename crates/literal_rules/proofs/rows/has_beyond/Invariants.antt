use Rattle.std.proofs.Common.{◌≡◌, ◌++◌, ℕ, List, take, nat_eq}
use Rattle.literal_rules.specs.Rows.{is_beyond}
use Rattle.literal_rules.proofs.rows.has_beyond.Given as goal
use Rattle.rule_words.specs.Again.{any_of}

abbrev pub invariant-loop-i : goal.invariant-loop-i
invariant-loop-i l = l.found ≡ any_of (is_beyond l.limit l.places) l.i
