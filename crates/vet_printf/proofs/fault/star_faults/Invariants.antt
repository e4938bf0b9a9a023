use Rattle.std.proofs.Common.{◌≡◌, drop}
use Rattle.vet_printf.specs.Faults.{star_faults}
use Rattle.vet_printf.proofs.fault.star_faults.Given as goal

abbrev pub invariant-loop-n : goal.invariant-loop-n
invariant-loop-n l = star_faults l.list (drop l.n-index l.stars) ≡ star_faults l.list l.stars
