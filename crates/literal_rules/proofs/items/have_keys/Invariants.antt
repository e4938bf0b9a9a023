use Rattle.std.proofs.Common.{◌≡◌}
use Rattle.literal_rules.specs.Again.{all_of}
use Rattle.literal_rules.specs.Items.{is_keyed}
use Rattle.literal_rules.proofs.items.have_keys.Given as goal

abbrev pub invariant-loop-i : goal.invariant-loop-i
invariant-loop-i l = l.all ≡ all_of (is_keyed l.nodes l.v) l.i
