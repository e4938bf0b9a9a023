use Rattle.gv_driver.specs.Waves.{AreJobs}
use Rattle.gv_driver.proofs.jobs.ready_jobs.Given as goal

abbrev pub invariant-loop-at : goal.invariant-loop-at
invariant-loop-at l = AreJobs l.tree l.table l.at l.jobs.items
