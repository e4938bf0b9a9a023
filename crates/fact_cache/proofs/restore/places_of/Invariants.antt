use Rattle.std.proofs.Common.{◌≡◌, take, map}
use Rattle.fact_cache.specs.Placed.{place_at}
use Rattle.fact_cache.proofs.restore.places_of.Given as goal

abbrev pub invariant-loop-n : goal.invariant-loop-n
invariant-loop-n l = l.list.items ≡ map (place_at l.places) (take l.n-index l.numbers)
