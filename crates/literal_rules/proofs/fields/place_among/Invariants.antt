use Rattle.std.proofs.Common.{◌≡◌}
use Rattle.literal_rules.proofs.FieldLemmas.{scan}
use Rattle.literal_rules.proofs.fields.place_among.Given as goal

abbrev pub invariant-loop-i : goal.invariant-loop-i
invariant-loop-i l = scan l.s l.fields l.name 0 ≡ scan l.s l.fields l.name l.i
