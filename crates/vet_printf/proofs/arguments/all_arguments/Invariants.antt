use Rattle.findings.specs.Passes.{unit_in, marks_in}
use Rattle.vet_printf.specs.Calls.{IsNthArgument}
use Rattle.vet_printf.specs.InTable.{AreEach}
use Rattle.vet_printf.proofs.arguments.all_arguments.Given as goal

abbrev pub invariant-loop-i : goal.invariant-loop-i
invariant-loop-i l = AreEach (IsNthArgument (unit_in l.p) (marks_in l.p) l.file l.nodes) l.i l.list.items
