use Rattle.std.proofs.Common.{All, take}
use Rattle.gv_driver.specs.Standing.{LiesWithin}
use Rattle.gv_driver.proofs.standing.lie_in.Given as goal

abbrev pub invariant-loop-edit : goal.invariant-loop-edit
invariant-loop-edit l = All (LiesWithin l.size) (take l.edit-index l.edits)
