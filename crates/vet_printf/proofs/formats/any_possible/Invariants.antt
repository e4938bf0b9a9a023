use Rattle.std.proofs.Common.{◌≡◌, drop}
use Rattle.std.specs.List.{list_any}
use Rattle.vet_printf.specs.Formats.{is_possible}
use Rattle.vet_printf.proofs.formats.any_possible.Given as goal

abbrev pub invariant-loop-d : goal.invariant-loop-d
invariant-loop-d l = list_any is_possible (drop l.d-index l.directives) ≡ list_any is_possible l.directives
