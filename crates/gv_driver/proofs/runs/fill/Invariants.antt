use Rattle.std.proofs.Common.{◌≡◌, ◌++◌, drop, length, map, take}
use Rattle.action_graph.specs.Outcomes.{run_text}
use Rattle.gv_driver.specs.Making.{AreShortRuns, filled}
use Rattle.gv_driver.proofs.runs.fill.Given as goal

abbrev pub invariant-loop-p : goal.invariant-loop-p
invariant-loop-p l = record {
  size : length l.nodes.items ≡ length l.fn.nodes.items;
  whole : take l.p l.nodes.items ++ filled (drop l.p l.nodes.items) (drop l.next (map run_text l.outcomes)) ≡ filled l.fn.nodes.items (map run_text l.outcomes);
  short : AreShortRuns l.fn.nodes.items → AreShortRuns l.nodes.items;
}
