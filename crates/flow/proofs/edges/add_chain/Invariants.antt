use Rattle.std.proofs.Common.{◌≡◌, ◌++◌, drop}
use Rattle.flow.specs.Edges.{chain}
use Rattle.flow.proofs.edges.add_chain.Given as goal

abbrev pub invariant-loop-part : goal.invariant-loop-part
invariant-loop-part l = l.edges.items ++ chain l.tree l.role l.point (drop l.part-index l.parts) ≡ l.initial.edges.items ++ chain l.tree l.role l.from l.parts
