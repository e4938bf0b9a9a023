use Rattle.std.proofs.Common.{◌≡◌, drop}
use Rattle.std.specs.List.{list_any}
use Rattle.findings.specs.Passes.{unit_in}
use Rattle.vet_printf.specs.Forwards.{touches}
use Rattle.vet_printf.proofs.touching.is_touched.Given as goal

abbrev pub invariant-loop-node : goal.invariant-loop-node
invariant-loop-node l = list_any (touches (unit_in l.p) l.file l.at) (drop l.node-index l.nodes) ≡ list_any (touches (unit_in l.p) l.file l.at) l.nodes
