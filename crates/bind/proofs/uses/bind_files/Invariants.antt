use Rattle.bind.specs.Collected.{AreUsesTo}
use Rattle.bind.specs.Places.{placed}
use Rattle.bind.specs.Tables.{found}
use Rattle.bind.proofs.uses.bind_files.Given as goal

abbrev pub invariant-loop-at : goal.invariant-loop-at
invariant-loop-at l = AreUsesTo l.files l.named (found l.top_names) (placed l.universe) l.at l.uses.items
