use Rattle.duplicate_cases.specs.InCode.{AreSeen}
use Rattle.duplicate_cases.proofs.again.marks_of.Given as goal

abbrev pub invariant-loop-n : goal.invariant-loop-n
invariant-loop-n l = AreSeen l.s l.file l.list l.n-index l.marks.items
