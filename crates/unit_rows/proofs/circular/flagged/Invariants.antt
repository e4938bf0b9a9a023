use Rattle.std.proofs.Common.{◌≡◌, take}
use Rattle.std.specs.List.{flat_map}
use Rattle.unit_rows.specs.Circular.{if_flagged}
use Rattle.unit_rows.proofs.circular.flagged.Given as goal

abbrev pub invariant-loop-name : goal.invariant-loop-name
invariant-loop-name l = l.out.items ≡ flat_map (if_flagged l.rows.items) (take l.name-index l.names)
