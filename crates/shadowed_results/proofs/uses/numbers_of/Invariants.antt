use Rattle.std.proofs.Common.{◌≡◌, map, take}
use Rattle.shadowed_results.specs.InCode.{or_total}
use Rattle.shadowed_results.proofs.uses.numbers_of.Given as goal

abbrev pub invariant-loop-function : goal.invariant-loop-function
invariant-loop-function l = l.numbers.items ≡ map (or_total l.total) (take l.function-index l.functions)
