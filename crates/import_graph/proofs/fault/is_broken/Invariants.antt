use Rattle.std.proofs.Common.{◌≡◌, take, false}
use Rattle.import_graph.specs.Packages.{is_broken}
use Rattle.import_graph.proofs.fault.is_broken.Given as goal

abbrev pub invariant-loop-n : goal.invariant-loop-n
invariant-loop-n l = is_broken l.heads (take l.n-index l.files) ≡ false
