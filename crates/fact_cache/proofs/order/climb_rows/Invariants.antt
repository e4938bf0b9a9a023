use Rattle.std.proofs.Common.{◌≡◌, drop}
use Rattle.fact_cache.specs.Coded.{climbs_rows}
use Rattle.fact_cache.proofs.order.climb_rows.Given as goal

abbrev pub invariant-loop-row : goal.invariant-loop-row
invariant-loop-row l = climbs_rows l.fn.count l.next (drop l.row-index l.rows) ≡ climbs_rows l.fn.count 0 l.rows
