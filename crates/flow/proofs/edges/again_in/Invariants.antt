use Rattle.std.proofs.Common.{◌≡◌, drop}
use Rattle.flow.specs.Edges.{again_in}
use Rattle.flow.proofs.edges.again_in.Given as goal

abbrev pub invariant-loop-part : goal.invariant-loop-part
invariant-loop-part l = again_in l.tree l.end (drop l.part-index l.parts) ≡ again_in l.tree l.end l.parts
