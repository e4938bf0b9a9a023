use Rattle.std.proofs.Common.{◌≡◌, length}
use Rattle.fact_cache.specs.Caches.{trimmed}
use Rattle.fact_cache.proofs.list.Cache.trim.Given as goal

abbrev pub invariant-loop-self : goal.invariant-loop-self
invariant-loop-self l = trimmed l.self ≡ trimmed l.initial.self

abbrev pub decreases-loop-self : goal.decreases-loop-self
decreases-loop-self l = length l.self
