use Rattle.std.proofs.Common.{◌≡◌, ◌-◌, ◌^◌}
use Rattle.gv_bytes.specs.Reading.{natural_at, each_at}
use Rattle.gv_bytes.proofs.Loops.{with_front}
use Rattle.fact_cache.proofs.coded.numbers_of.Given as goal

abbrev pub invariant-loop : goal.invariant-loop
invariant-loop l = with_front l.list.items (each_at (natural_at (2 ^ 64 - 1)) (l.count - l.counter) l.rest) ≡ each_at (natural_at (2 ^ 64 - 1)) l.count l.bytes
