use Rattle.std.proofs.Common.{length}
use Rattle.bind.specs.Undeclared.{counts, AreEnds}
use Rattle.bind.proofs.unknown.ends_of.Given as goal

abbrev pub invariant-loop-i : goal.invariant-loop-i
invariant-loop-i l = AreEnds (counts l.file l.name) l.file.locals.names.items l.i (length l.file.tree.now.nodes) l.ends.items
