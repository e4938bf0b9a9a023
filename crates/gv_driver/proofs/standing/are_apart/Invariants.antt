use Rattle.gv_driver.specs.Standing.{AreFree}
use Rattle.gv_driver.proofs.standing.are_apart.Given as goal

abbrev pub invariant-loop-at : goal.invariant-loop-at
invariant-loop-at l = AreFree l.edits l.at
