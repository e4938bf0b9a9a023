use Rattle.std.proofs.Common.{◌≡◌}
use Rattle.literal_rules.specs.Again.{all_of}
use Rattle.literal_rules.specs.Maps.{is_keyed}
use Rattle.literal_rules.specs.InCode.{keys_in}
use Rattle.literal_rules.proofs.maps.are_keyed.Given as goal

abbrev pub invariant-loop-i : goal.invariant-loop-i
invariant-loop-i l = l.all ≡ all_of (is_keyed (keys_in l.s l.keys)) l.i
