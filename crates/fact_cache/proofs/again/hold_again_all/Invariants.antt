use Rattle.std.proofs.Common.{take, map}
use Rattle.fact_cache.specs.declared.spread.Key.{Key}
use Rattle.fact_cache.specs.Kept.{text_at, AreMixed}
use Rattle.fact_cache.specs.Numbered.{AreTaken}
use Rattle.fact_cache.proofs.again.hold_again_all.Given as goal

abbrev pub invariant-loop-i : goal.invariant-loop-i
invariant-loop-i l = AreTaken l.initial.kept l.kept (map (text_at l.initial.kept) (take l.i l.numbers)) (take l.i l.numbers) × ((key : Key) → AreMixed key l.initial.kept → AreMixed key l.kept)
