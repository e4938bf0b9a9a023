use Rattle.std.proofs.Common.{map}
use Rattle.fact_cache.specs.Indexes.{IsWalk}
use Rattle.fact_cache.specs.Spread.{bucket_of}
use Rattle.fact_cache.proofs.CacheLemmas.{IsPassed}
use Rattle.fact_cache.proofs.slices.seek_from.Given as goal

abbrev pub invariant-loop-at : goal.invariant-loop-at
invariant-loop-at l = IsWalk l.index (bucket_of l.fn.key (record { node = l.node; texts = map (λ t. t.now) l.texts })) (IsPassed l.kept l.rows.items (record { node = l.node; texts = map (λ t. t.now) l.texts })) l.at

abbrev pub decreases-loop-at : goal.decreases-loop-at
decreases-loop-at l = l.at
