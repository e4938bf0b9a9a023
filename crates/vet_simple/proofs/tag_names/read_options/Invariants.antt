use Rattle.std.proofs.Common.{◌≡◌, take}
use Rattle.std.specs.List.{fold}
use Rattle.vet_simple.specs.TagNames.{option_step, no_options}
use Rattle.vet_simple.proofs.tag_names.read_options.Given as goal

abbrev pub invariant-loop-b : goal.invariant-loop-b
invariant-loop-b l = fold option_step no_options (take l.b-index l.value) ≡ l.o
