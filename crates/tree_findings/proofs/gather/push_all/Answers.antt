use Rattle.std.proofs.Common.{◌++◌, ◌∷◌, ◌∙◌, [], ap, map, slice_set}
use Rattle.fix_apply.specs.declared.edits.Edit.{Edit}
use Rattle.tree_findings.specs.Mending.{row_at}
use Rattle.tree_findings.proofs.GatherLemmas.{adds-none, adds-more}
use Rattle.tree_findings.proofs.gather.push_all.Goals as goal

pub loop-edit-init : goal.loop-edit-init
loop-edit-init c = adds-none c.args.file c.args.edits.now c.args.rows.now.items

pub loop-edit-preserved : goal.loop-edit-preserved
loop-edit-preserved c =
    adds-more c.args.file c.args.edits.now c.loop-edit.edit-index c.edit-item.result c.args.rows.now.items c.loop-edit.rows.items c.push_at.new.rows.items c.requires c.loop-edit-test.true c.edit-item.is c.loop-edit.invariant
    (c.in_ok-push_at.ensures ∙ ap (λ (e : Edit). slice_set (map (λ row. row.items) c.loop-edit.rows.items) c.args.file (row_at c.loop-edit.rows.items c.args.file ++ e ∷ [])) c.in_ok-more.ensures)
