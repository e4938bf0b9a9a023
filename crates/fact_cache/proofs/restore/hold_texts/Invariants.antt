use Rattle.std.proofs.Common.{take, map}
use Rattle.fact_cache.specs.Kept.{AreMixed}
use Rattle.fact_cache.specs.Numbered.{AreTaken}
use Rattle.fact_cache.proofs.RestoreLemmas.{AreApartTo}
use Rattle.fact_cache.proofs.restore.hold_texts.Given as goal

abbrev pub invariant-loop-i : goal.invariant-loop-i
invariant-loop-i l = AreMixed l.fn.key l.kept × AreTaken l.initial.kept l.kept (take l.i (map (λ t. t.now) l.texts)) l.places.items × AreApartTo (map (λ t. t.now) l.texts) l.i
