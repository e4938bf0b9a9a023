use Rattle.std.proofs.Common.{take}
use Rattle.label_uses.specs.Parents.{AreGiven}
use Rattle.label_uses.proofs.parts.give.Given as goal

abbrev pub invariant-loop-part : goal.invariant-loop-part
invariant-loop-part l = AreGiven (take l.part-index l.parts) l.number l.fn.numbers.items l.numbers.items
