use Rattle.std.proofs.Common.{◌≡◌, map, take}
use Rattle.gv_driver.specs.Given.{told_at}
use Rattle.gv_driver.proofs.facts.tell_facts.Given as goal

abbrev pub invariant-loop-node : goal.invariant-loop-node
invariant-loop-node l = l.list.items ≡ map told_at (take l.node-index l.table)
