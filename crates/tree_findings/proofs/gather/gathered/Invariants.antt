use Rattle.std.proofs.Common.{take}
use Rattle.tree_findings.specs.Mending.{AreGathered}
use Rattle.tree_findings.proofs.gather.gathered.Given as goal

abbrev pub invariant-loop-k : goal.invariant-loop-k
invariant-loop-k l = AreGathered l.count (take l.k l.fixes) (take l.k l.choices) l.rows.items
