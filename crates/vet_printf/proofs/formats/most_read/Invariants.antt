use Rattle.std.proofs.Common.{◌≡◌, drop}
use Rattle.vet_printf.specs.Formats.{most_read}
use Rattle.vet_printf.proofs.formats.most_read.Given as goal

abbrev pub invariant-loop-d : goal.invariant-loop-d
invariant-loop-d l = most_read l.most (drop l.d-index l.directives) ≡ most_read l.so_far l.directives
