use Rattle.std.proofs.Common.{◌≡◌, length}
use Rattle.import_graph.specs.Modules.{lines_of, module_line}
use Rattle.import_graph.proofs.go_mod.module_line.Given as goal

abbrev pub invariant-lines : goal.invariant-lines
invariant-lines l = module_line (lines_of l.bytes) ≡ module_line (lines_of l.rest)

abbrev pub decreases-lines : goal.decreases-lines
decreases-lines l = length l.rest
