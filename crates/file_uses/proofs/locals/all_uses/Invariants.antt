use Rattle.file_uses.proofs.LocalLemmas.{AreFirst}
use Rattle.file_uses.proofs.locals.all_uses.Given as goal

abbrev pub invariant-loop-at : goal.invariant-loop-at
invariant-loop-at l = AreFirst l.numbers l.at l.uses.items
