use Rattle.std.proofs.Common.{◌≡◌, map, take}
use Rattle.unit_read.specs.Units.{repeater}
use Rattle.unit_rows.proofs.copies.repeaters.Given as goal

abbrev pub invariant-loop-passage : goal.invariant-loop-passage
invariant-loop-passage l = l.list.items ≡ map repeater (take l.passage-index l.passages)
