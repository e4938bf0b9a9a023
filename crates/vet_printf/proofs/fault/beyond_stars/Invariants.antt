use Rattle.std.proofs.Common.{◌≡◌, drop}
use Rattle.vet_printf.specs.Faults.{beyond_stars}
use Rattle.vet_printf.proofs.fault.beyond_stars.Given as goal

abbrev pub invariant-loop-n : goal.invariant-loop-n
invariant-loop-n l = beyond_stars l.count (drop l.n-index l.stars) ≡ beyond_stars l.count l.stars
