use Rattle.gv_driver.specs.Standing.{IsFree}
use Rattle.gv_driver.proofs.standing.is_free.Given as goal

abbrev pub invariant-loop-other : goal.invariant-loop-other
invariant-loop-other l = IsFree l.edits l.at l.other
