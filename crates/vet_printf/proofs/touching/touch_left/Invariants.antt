use Rattle.std.proofs.Common.{ℕ, take}
use Rattle.std.specs.List.{list_any}
use Rattle.package_objects.specs.Declares.{part, items}
use Rattle.unit_read.specs.Units.{nodes_at}
use Rattle.findings.specs.Passes.{unit_in}
use Rattle.vet_printf.specs.Forwards.{denotes, IsMore}
use Rattle.vet_printf.proofs.touching.touch_left.Given as goal

abbrev pub invariant-loop-i : goal.invariant-loop-i
invariant-loop-i l = IsMore (λ (m : ℕ). list_any (denotes (unit_in l.p) l.file m) (take l.i (items (nodes_at (unit_in l.p) l.file) (part l.node 0)))) l.fn.row.items l.row.items
