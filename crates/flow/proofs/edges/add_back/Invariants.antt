use Rattle.std.proofs.Common.{◌≡◌, ◌++◌, drop}
use Rattle.flow.specs.Edges.{back}
use Rattle.flow.proofs.edges.add_back.Given as goal

abbrev pub invariant-loop-part : goal.invariant-loop-part
invariant-loop-part l = l.edges.items ++ back l.tree l.role l.end (drop l.part-index l.parts) ≡ l.initial.edges.items ++ back l.tree l.role l.end l.parts
