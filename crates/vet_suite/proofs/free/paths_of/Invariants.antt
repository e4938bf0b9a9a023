use Rattle.std.proofs.Common.{◌≡◌, map, take}
use Rattle.vet_suite.specs.Free.{path_of}
use Rattle.vet_suite.proofs.free.paths_of.Given as goal

abbrev pub invariant-loop-file : goal.invariant-loop-file
invariant-loop-file l = l.paths.items ≡ map path_of (take l.file-index l.files)
