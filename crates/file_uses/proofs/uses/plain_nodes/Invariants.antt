use Rattle.file_uses.proofs.UseLemmas.{PlainSoFar}
use Rattle.file_uses.proofs.uses.plain_nodes.Given as goal

abbrev pub invariant-loop-at : goal.invariant-loop-at
invariant-loop-at l = PlainSoFar l.nodes l.at l.flags.items
