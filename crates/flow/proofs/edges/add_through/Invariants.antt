use Rattle.std.proofs.Common.{◌≡◌, ◌++◌, drop}
use Rattle.flow.specs.Edges.{through}
use Rattle.flow.proofs.edges.add_through.Given as goal

abbrev pub invariant-loop-part : goal.invariant-loop-part
invariant-loop-part l = l.edges.items ++ through l.tree l.role l.from l.end (drop l.part-index l.parts) ≡ l.initial.edges.items ++ through l.tree l.role l.from l.end l.parts
