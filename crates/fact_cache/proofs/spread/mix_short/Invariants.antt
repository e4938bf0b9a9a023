use Rattle.std.proofs.Common.{◌≡◌, drop}
use Rattle.fact_cache.specs.Spread.{mixed_short}
use Rattle.fact_cache.proofs.spread.mix_short.Given as goal

abbrev pub invariant-loop-byte : goal.invariant-loop-byte
invariant-loop-byte l = mixed_short l.fn.point l.hash (drop l.byte-index l.bytes) ≡ mixed_short l.fn.point l.fn.seed l.bytes
