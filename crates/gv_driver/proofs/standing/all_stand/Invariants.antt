use Rattle.std.proofs.Common.{All, take}
use Rattle.gv_driver.specs.Standing.{Stands}
use Rattle.gv_driver.proofs.standing.all_stand.Given as goal

abbrev pub invariant-loop-mark : goal.invariant-loop-mark
invariant-loop-mark l = All (Stands l.files) (take l.mark-index l.marks)
