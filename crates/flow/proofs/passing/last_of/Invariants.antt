use Rattle.std.proofs.Common.{◌≡◌, None, drop}
use Rattle.flow.specs.Passing.{last_of}
use Rattle.flow.proofs.passing.last_of.Given as goal

abbrev pub invariant-loop-part : goal.invariant-loop-part
invariant-loop-part l = last_of l.tree l.role l.last (drop l.part-index l.parts) ≡ last_of l.tree l.role None l.parts
