use Rattle.std.proofs.Common.{take}
use Rattle.import_graph.specs.Packages.{lines_of}
use Rattle.import_graph.specs.Tables.{AreFound}
use Rattle.import_graph.proofs.imports.find_all.Given as goal

abbrev pub invariant-loop-n : goal.invariant-loop-n
invariant-loop-n l = AreFound l.names (lines_of l.heads (take l.n-index l.files)) l.found.items
