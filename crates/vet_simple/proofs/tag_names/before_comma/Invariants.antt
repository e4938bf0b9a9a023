use Rattle.std.proofs.Common.{◌≡◌, ◌++◌, drop}
use Rattle.vet_simple.specs.TagNames.{before_comma}
use Rattle.vet_simple.proofs.tag_names.before_comma.Given as goal

abbrev pub invariant-loop-b : goal.invariant-loop-b
invariant-loop-b l = l.name.items ++ before_comma (drop l.b-index l.value) ≡ before_comma l.value
