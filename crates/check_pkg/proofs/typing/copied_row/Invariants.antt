use Rattle.std.proofs.Common.{◌≡◌, take}
use Rattle.check_pkg.proofs.typing.copied_row.Given as goal

abbrev pub invariant-loop-cell : goal.invariant-loop-cell
invariant-loop-cell g l = l.copy.items ≡ take l.cell-index l.row
