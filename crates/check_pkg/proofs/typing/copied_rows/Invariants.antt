use Rattle.std.proofs.Common.{◌≡◌, map, take}
use Rattle.check_pkg.specs.Typings.{items_of}
use Rattle.check_pkg.proofs.typing.copied_rows.Given as goal

abbrev pub invariant-loop-row : goal.invariant-loop-row
invariant-loop-row g l = map items_of l.copy.items ≡ map items_of (take l.row-index l.rows)
