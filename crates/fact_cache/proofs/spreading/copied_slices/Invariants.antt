use Rattle.std.proofs.Common.{◌≡◌, map, take}
use Rattle.fact_cache.proofs.spreading.copied_slices.Given as goal

abbrev pub invariant-loop-text : goal.invariant-loop-text
invariant-loop-text l = map (λ t. t.now) l.copy.items ≡ map (λ t. t.now) (take l.text-index l.texts)
