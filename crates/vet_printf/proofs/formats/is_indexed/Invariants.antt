use Rattle.std.proofs.Common.{◌≡◌, drop}
use Rattle.vet_printf.specs.Formats.{is_indexed}
use Rattle.vet_printf.proofs.formats.is_indexed.Given as goal

abbrev pub invariant-loop-d : goal.invariant-loop-d
invariant-loop-d l = is_indexed (drop l.d-index l.directives) ≡ is_indexed l.directives
