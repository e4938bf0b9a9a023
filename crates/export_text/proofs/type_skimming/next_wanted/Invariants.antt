use Rattle.std.proofs.Common.{◌≡◌}
use Rattle.std.specs.Prelude.{length}
use Rattle.type_texts.specs.Pieces.{wanted}
use Rattle.export_text.proofs.type_skimming.next_wanted.Given as goal

abbrev pub invariant-loop-run : goal.invariant-loop-run
invariant-loop-run l = wanted l.wants.items ≡ wanted l.fn.wants.items

abbrev pub decreases-loop-run : goal.decreases-loop-run
decreases-loop-run l = length l.wants.items
