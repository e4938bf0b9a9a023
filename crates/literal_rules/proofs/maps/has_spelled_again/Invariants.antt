use Rattle.std.proofs.Common.{◌≡◌, ℕ, List}
use Rattle.std.specs.Str.{bytes_eq}
use Rattle.literal_rules.specs.Again.{has_again}
use Rattle.literal_rules.specs.Sets.{spelled_key}
use Rattle.literal_rules.proofs.maps.has_spelled_again.Given as goal
use Rattle.rule_words.specs.Again.{is_before}
use Rattle.rule_words.specs.Met.{holds}

abbrev pub invariant-loop-i : goal.invariant-loop-i
invariant-loop-i l = record {
  found : l.found ≡ has_again bytes_eq (spelled_key l.s l.keys) l.i;
  met : (k : List ℕ) → holds l.met k ≡ is_before bytes_eq (spelled_key l.s l.keys) l.i k;
}
