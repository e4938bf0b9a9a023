use Rattle.std.proofs.Common.{◌≡◌, drop}
use Rattle.flow.specs.Edges.{end_of}
use Rattle.flow.proofs.edges.end_of.Given as goal

abbrev pub invariant-loop-part : goal.invariant-loop-part
invariant-loop-part l = end_of l.tree l.role l.point (drop l.part-index l.parts) ≡ end_of l.tree l.role l.from l.parts
