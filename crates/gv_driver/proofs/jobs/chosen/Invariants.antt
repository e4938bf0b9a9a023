use Rattle.gv_driver.specs.Waves.{AreChosen}
use Rattle.gv_driver.proofs.jobs.chosen.Given as goal

abbrev pub invariant-loop-at : goal.invariant-loop-at
invariant-loop-at l = AreChosen l.tree l.table l.end l.jobs.items
