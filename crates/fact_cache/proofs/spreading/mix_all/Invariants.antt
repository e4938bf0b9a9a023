use Rattle.std.proofs.Common.{◌≡◌, drop}
use Rattle.fact_cache.specs.Spread.{mixed_numbers}
use Rattle.fact_cache.proofs.spreading.mix_all.Given as goal

abbrev pub invariant-loop-number : goal.invariant-loop-number
invariant-loop-number l = mixed_numbers l.fn.key l.hash (drop l.number-index l.numbers) ≡ mixed_numbers l.fn.key l.fn.seed l.numbers
