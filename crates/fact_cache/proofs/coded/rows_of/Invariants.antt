use Rattle.std.proofs.Common.{◌≡◌, ◌-◌}
use Rattle.gv_bytes.specs.Reading.{each_at}
use Rattle.fact_cache.specs.Coded.{row_at}
use Rattle.gv_bytes.proofs.Loops.{with_front}
use Rattle.fact_cache.proofs.coded.rows_of.Given as goal

abbrev pub invariant-loop : goal.invariant-loop
invariant-loop l = with_front l.list.items (each_at row_at (l.count - l.counter) l.rest) ≡ each_at row_at l.count l.bytes
