use Rattle.std.proofs.Common.{◌≡◌, ◌-◌, map}
use Rattle.gv_bytes.specs.Reading.{text_at, each_at}
use Rattle.gv_bytes.proofs.Loops.{with_front}
use Rattle.fact_cache.proofs.coded.texts_of.Given as goal

abbrev pub invariant-loop : goal.invariant-loop
invariant-loop l = with_front (map (λ t. t.now) l.list.items) (each_at text_at (l.count - l.counter) l.rest) ≡ each_at text_at l.count l.bytes
