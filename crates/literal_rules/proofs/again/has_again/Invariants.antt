use Rattle.std.proofs.Common.{◌≡◌, ◌++◌, ℕ, List, take, nat_eq}
use Rattle.literal_rules.specs.Again.{has_again}
use Rattle.literal_rules.specs.Sets.{has}
use Rattle.literal_rules.proofs.again.has_again.Given as goal
use Rattle.rule_words.specs.Again.{is_before, nth_of}

abbrev pub invariant-loop-i : goal.invariant-loop-i
invariant-loop-i l = record {
  found : l.found ≡ has_again nat_eq (nth_of l.places) l.i;
  met : (n : ℕ) → has l.met n ≡ is_before nat_eq (nth_of l.places) l.i n;
}
