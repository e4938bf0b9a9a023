use Rattle.std.proofs.Common.{◌≡◌, drop}
use Rattle.flow.specs.Passing.{flag_of, some_passes}
use Rattle.flow.proofs.passing.some_passes.Given as goal

abbrev pub invariant-loop-part : goal.invariant-loop-part
invariant-loop-part l = some_passes l.tree l.role (flag_of l.flags) (drop l.part-index l.parts) ≡ some_passes l.tree l.role (flag_of l.flags) l.parts
