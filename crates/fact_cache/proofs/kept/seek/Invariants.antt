use Rattle.std.proofs.Common.{◌≡◌, ℕ, false}
use Rattle.fact_cache.specs.Indexes.{IsWalk}
use Rattle.fact_cache.specs.Spread.{head_of}
use Rattle.fact_cache.specs.Kept.{is_text_at}
use Rattle.fact_cache.proofs.kept.seek.Given as goal

abbrev pub invariant-loop-at : goal.invariant-loop-at
invariant-loop-at l = IsWalk l.index (head_of l.number) (λ (k : ℕ). is_text_at l.places k l.number l.bytes ≡ false) l.at

abbrev pub decreases-loop-at : goal.decreases-loop-at
decreases-loop-at l = l.at
