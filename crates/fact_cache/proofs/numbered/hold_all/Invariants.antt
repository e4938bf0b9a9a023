use Rattle.std.proofs.Common.{take}
use Rattle.fact_cache.specs.Numbered.{AreTaken}
use Rattle.fact_cache.specs.Kept.{AreMixed}
use Rattle.fact_cache.proofs.numbered.hold_all.Given as goal

abbrev pub invariant-loop-text : goal.invariant-loop-text
invariant-loop-text l = AreMixed l.key l.kept × AreTaken l.initial.kept l.kept (take l.text-index l.texts) l.numbers.items
