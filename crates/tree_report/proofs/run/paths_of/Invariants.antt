use Rattle.std.proofs.Common.{◌≡◌, take}
use Rattle.import_graph.specs.Packages.{paths_of}
use Rattle.tree_report.proofs.run.paths_of.Given as goal

abbrev pub invariant-loop-pack : goal.invariant-loop-pack
invariant-loop-pack l = l.paths.items ≡ paths_of (take l.pack-index l.packages)
