use Rattle.std.proofs.Common.{◌≡◌}
use Rattle.literal_rules.specs.Items.{is_bad_key}
use Rattle.literal_rules.specs.InCode.{keys_in}
use Rattle.literal_rules.proofs.items.has_bad.Given as goal
use Rattle.rule_words.specs.Again.{any_of}

abbrev pub invariant-loop-i : goal.invariant-loop-i
invariant-loop-i l = l.found ≡ any_of (is_bad_key (keys_in l.s l.keys)) l.i
