use Rattle.findings.specs.Passes.{unit_in, marks_in}
use Rattle.vet_printf.specs.InTable.{AreEach}
use Rattle.vet_printf.specs.Items.{IsItemAs}
use Rattle.vet_printf.specs.Wraps.{number_of}
use Rattle.vet_printf.proofs.items.all_items.Given as goal

abbrev pub invariant-loop-i : goal.invariant-loop-i
invariant-loop-i l = AreEach (IsItemAs l.known (unit_in l.p) (marks_in l.p) (number_of l.kind)) l.i l.items.items
