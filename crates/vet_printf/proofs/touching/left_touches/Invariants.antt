use Rattle.std.proofs.Common.{◌≡◌, take, false}
use Rattle.std.specs.List.{list_any}
use Rattle.package_objects.specs.Declares.{part, items}
use Rattle.unit_read.specs.Units.{nodes_at}
use Rattle.findings.specs.Passes.{unit_in}
use Rattle.vet_printf.specs.Forwards.{denotes}
use Rattle.vet_printf.proofs.touching.left_touches.Given as goal

-- none of the first few; with TouchLemmas.any_take at each step and any_whole at the end
abbrev pub invariant-loop-i : goal.invariant-loop-i
invariant-loop-i l = list_any (denotes (unit_in l.p) l.file l.at) (take l.i (items (nodes_at (unit_in l.p) l.file) (part l.node 0))) ≡ false
