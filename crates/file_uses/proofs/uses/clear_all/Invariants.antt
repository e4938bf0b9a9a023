use Rattle.std.proofs.Common.{take}
use Rattle.std.specs.List.{Contains}
use Rattle.file_uses.specs.Uses.{IsCleared}
use Rattle.file_uses.proofs.uses.clear_all.Given as goal

abbrev pub invariant-loop-part : goal.invariant-loop-part
invariant-loop-part l = IsCleared l.fn.flags.items l.flags.items (λ n. Contains (take l.part-index l.parts) n)
