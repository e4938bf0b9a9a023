use Rattle.std.proofs.Common.{◌≡◌}
use Rattle.literal_rules.specs.Items.{is_keyed}
use Rattle.literal_rules.proofs.items.has_key.Given as goal
use Rattle.rule_words.specs.Again.{any_of}

abbrev pub invariant-loop-i : goal.invariant-loop-i
invariant-loop-i l = l.found ≡ any_of (is_keyed l.nodes l.v) l.i
