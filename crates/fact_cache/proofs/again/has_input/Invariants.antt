use Rattle.fact_cache.specs.Indexes.{IsWalk}
use Rattle.fact_cache.specs.Numbered.{input_in}
use Rattle.fact_cache.specs.Spread.{bucket_of}
use Rattle.fact_cache.proofs.CacheLemmas.{IsPassed}
use Rattle.fact_cache.proofs.again.has_input.Given as goal

abbrev pub invariant-loop-at : goal.invariant-loop-at
invariant-loop-at l = IsWalk l.index (bucket_of l.fn.key (input_in l.kept l.row)) (IsPassed l.kept l.rows.items (input_in l.kept l.row)) l.at

abbrev pub decreases-loop-at : goal.decreases-loop-at
decreases-loop-at l = l.at
