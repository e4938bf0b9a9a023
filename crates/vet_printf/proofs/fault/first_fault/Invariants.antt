use Rattle.std.proofs.Common.{◌≡◌, drop}
use Rattle.vet_printf.specs.Faults.{first_fault}
use Rattle.vet_printf.proofs.fault.first_fault.Given as goal

abbrev pub invariant-loop-d : goal.invariant-loop-d
invariant-loop-d l = first_fault l.errorf l.list (drop l.d-index l.directives) ≡ first_fault l.errorf l.list l.directives
