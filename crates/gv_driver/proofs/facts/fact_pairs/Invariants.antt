use Rattle.std.proofs.Common.{◌≡◌, map, take}
use Rattle.gv_driver.specs.Given.{fact_pair_at}
use Rattle.gv_driver.proofs.facts.fact_pairs.Given as goal

abbrev pub invariant-loop-number : goal.invariant-loop-number
invariant-loop-number l = l.pairs.items ≡ map (fact_pair_at l.tree l.table l.analyzer) (take l.number-index l.numbers)
