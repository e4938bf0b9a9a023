use Rattle.std.proofs.Common.{take}
use Rattle.scopes.proofs.WalkLemmas.{Walked}
use Rattle.scopes.proofs.walk.+collect.Given as goal

abbrev pub decreases-collect : goal.decreases-collect
decreases-collect l = l.at

abbrev pub invariant-loop-part : goal.invariant-loop-part
invariant-loop-part l =
    Walked l.nodes l.from (take l.part-index l.parts) (record { block = l.inner; within = l.handed_within.items; around = l.handed_around.items }) l.initial.out.items l.out.items l.next
