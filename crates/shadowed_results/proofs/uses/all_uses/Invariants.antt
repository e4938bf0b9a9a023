use Rattle.file_uses.proofs.LocalLemmas.{AreFirst}
use Rattle.shadowed_results.proofs.uses.all_uses.Given as goal

abbrev pub invariant-loop-at : goal.invariant-loop-at
invariant-loop-at l = AreFirst l.numbers l.at l.uses.items
