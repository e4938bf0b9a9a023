use Rattle.std.proofs.Common.{◌≡◌, take}
use Rattle.tree_findings.specs.Mending.{changes_from, edits_at}
use Rattle.tree_findings.proofs.mending.changes.Given as goal

abbrev pub invariant-loop-file : goal.invariant-loop-file
invariant-loop-file l = l.changed.items ≡ changes_from (edits_at l.edits.items) 0 (take l.file l.files)
