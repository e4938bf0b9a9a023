use Rattle.std.proofs.Common.{◌≡◌, drop}
use Rattle.vet_printf.specs.Formats.{most_star}
use Rattle.vet_printf.proofs.formats.most_star.Given as goal

abbrev pub invariant-loop-n : goal.invariant-loop-n
invariant-loop-n l = most_star l.most (drop l.n-index l.stars) ≡ most_star l.so_far l.stars
