use Rattle.std.proofs.Common.{take}
use Rattle.tree_findings.specs.Mending.{Adds}
use Rattle.tree_findings.proofs.gather.push_all.Given as goal

abbrev pub invariant-loop-edit : goal.invariant-loop-edit
invariant-loop-edit l = Adds l.file (take l.edit-index l.edits) l.fn.rows.items l.rows.items
