use Rattle.std.proofs.Common.{◌≡◌, take}
use Rattle.scripts.specs.Runs.{value_of}
use Rattle.scripts.proofs.fields.number.Given as goal

abbrev pub invariant-loop-digit : goal.invariant-loop-digit
invariant-loop-digit l = l.value ≡ value_of 0 (take l.digit-index l.digits)
