use Rattle.std.proofs.Common.{◌++◌, ◌∙◌, List, ap}
use Rattle.fix_apply.specs.declared.edits.Edit.{Edit}
use Rattle.tree_findings.specs.Mending.{changed_by, edits_at}
use Rattle.tree_findings.proofs.MendLemmas.{changes-more, fit-here}
use Rattle.tree_findings.proofs.mending.changes.Goals as goal

pub push_changed-requires-clause-lie : goal.push_changed-requires-clause-lie
push_changed-requires-clause-lie c = (fit-here c.args.files.now c.args.edits.now.items c.loop-file.file c.at.result.0.now c.at.result.1.now c.row_of-row.result.now c.at.ensures c.row_of-row.ensures c.requires.fit).lie

pub push_changed-requires-clause-apart : goal.push_changed-requires-clause-apart
push_changed-requires-clause-apart c = (fit-here c.args.files.now c.args.edits.now.items c.loop-file.file c.at.result.0.now c.at.result.1.now c.row_of-row.result.now c.at.ensures c.row_of-row.ensures c.requires.fit).apart

pub loop-file-preserved : goal.loop-file-preserved
loop-file-preserved c =
    changes-more (edits_at c.args.edits.now.items) c.args.files.now c.loop-file.file (c.at.result.0.now, c.at.result.1.now) c.loop-file.changed.items c.push_changed.new.changed.items c.at.ensures c.loop-file.invariant
    (c.in_ok-push_changed.ensures ∙ ap (λ (es : List Edit). c.loop-file.changed.items ++ changed_by (c.at.result.0.now, c.at.result.1.now) es) c.row_of-row.ensures)
