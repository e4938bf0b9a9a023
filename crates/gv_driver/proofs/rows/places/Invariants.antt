use Rattle.std.proofs.Common.{◌≡◌}
use Rattle.gv_driver.specs.Rows.{places_below}
use Rattle.gv_driver.proofs.rows.places.Given as goal

abbrev pub invariant-loop-at : goal.invariant-loop-at
invariant-loop-at l = l.list.items ≡ places_below l.flags l.at
