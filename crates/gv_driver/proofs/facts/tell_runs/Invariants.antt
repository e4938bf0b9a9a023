use Rattle.std.proofs.Common.{◌≡◌, ◌++◌, drop}
use Rattle.gv_driver.specs.Given.{told_facts}
use Rattle.gv_driver.proofs.facts.tell_runs.Given as goal

abbrev pub invariant-loop-run : goal.invariant-loop-run
invariant-loop-run l = l.list.items ++ told_facts (drop l.run-index l.runs) ≡ told_facts l.runs
