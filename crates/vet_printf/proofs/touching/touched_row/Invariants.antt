use Rattle.std.proofs.Common.{take, length}
use Rattle.findings.specs.Passes.{unit_in}
use Rattle.unit_read.specs.Units.{nodes_at}
use Rattle.vet_printf.specs.Forwards.{AreTouched}
use Rattle.vet_printf.proofs.touching.touched_row.Given as goal

-- `nodes` is the let; over it, since the loop runs over it
abbrev pub invariant-loop-node : goal.invariant-loop-node
invariant-loop-node l = AreTouched (unit_in l.p) l.file (length l.nodes) (take l.node-index l.nodes) l.row.items
