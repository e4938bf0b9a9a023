use Rattle.std.proofs.Common.{◌≡◌, drop}
use Rattle.fact_cache.specs.Coded.{climbs}
use Rattle.fact_cache.proofs.order.climb_all.Given as goal

abbrev pub invariant-loop-n : goal.invariant-loop-n
invariant-loop-n l = climbs l.fn.count l.next (drop l.n-index l.numbers) ≡ climbs l.fn.count l.fn.first l.numbers
