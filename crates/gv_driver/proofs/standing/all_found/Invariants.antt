use Rattle.std.proofs.Common.{All, take}
use Rattle.action_graph.specs.Standing.{IsFoundBy}
use Rattle.gv_driver.proofs.standing.all_found.Given as goal

abbrev pub invariant-loop-one : goal.invariant-loop-one
invariant-loop-one l = All (IsFoundBy l.files l.analyzer) (take l.one-index l.found)
