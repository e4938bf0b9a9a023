use Rattle.std.proofs.Common.{◌≡◌, take, map}
use Rattle.import_graph.specs.Packages.{home_of}
use Rattle.import_graph.proofs.homes.homes.Given as goal

abbrev pub invariant-loop-n : goal.invariant-loop-n
invariant-loop-n l = l.homes.items ≡ map (home_of l.root) (take l.n l.files)
