use Rattle.std.proofs.Common.{◌<◌, ◌∙◌, ◌≡◌, arith, length, ap, subst, sym}
use Rattle.fix_apply.specs.declared.edits.Edit.{Edit}
use Rattle.std.proofs.Common.{List}
use Rattle.tree_findings.specs.Mending.{Adds}
use Rattle.tree_findings.proofs.GatherLemmas.{fix-adds, other-adds}
use Rattle.tree_findings.proofs.gather.push_edits.Goals as goal

pub returns-then-file-len-clause-each : goal.returns-then-file-len-clause-each
returns-then-file-len-clause-each c = λ n lt. other-adds n c.args.fix.now c.args.rows.now.items (λ same. omega (arith, lt, same, c.if-file-len.true, c.len.ensures))

pub returns-clause-each : goal.returns-clause-each
returns-clause-each c = λ n lt. fix-adds n c.args.fix.now c.args.rows.now.items c.push_all.new.rows.items
    (subst (λ (es : List Edit). Adds c.args.fix.now.file es c.args.rows.now.items c.push_all.new.rows.items) c.as_slice.ensures c.in_ok-push_all.ensures)
