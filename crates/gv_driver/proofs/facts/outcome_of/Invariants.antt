use Rattle.std.proofs.Common.{◌≡◌, drop}
use Rattle.gv_driver.specs.Given.{outcome_in}
use Rattle.gv_driver.proofs.facts.outcome_of.Given as goal

abbrev pub invariant-loop-run : goal.invariant-loop-run
invariant-loop-run l = outcome_in (drop l.run-index l.runs) l.analyzer ≡ outcome_in l.runs l.analyzer
