use Rattle.std.proofs.Common.{◌≡◌, drop, map}
use Rattle.fact_cache.specs.Inputs.{same_texts}
use Rattle.fact_cache.specs.Kept.{text_at}
use Rattle.fact_cache.proofs.again.are_same_numbers.Given as goal

abbrev pub invariant-loop-i : goal.invariant-loop-i
invariant-loop-i l = same_texts (map (text_at l.kept) (drop l.i l.a)) (map (text_at l.kept) (drop l.i l.b)) ≡ same_texts (map (text_at l.kept) l.a) (map (text_at l.kept) l.b)
