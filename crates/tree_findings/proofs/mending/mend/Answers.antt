use Rattle.std.proofs.Common.{◌≡◌, ◌∙◌, List, ap, length, sym, subst}
use Rattle.fix_apply.specs.declared.choices.Choice.{Choice}
use Rattle.fix_apply.specs.declared.edits.Fix.{Fix}
use Rattle.fix_apply.specs.Choices.{Chosen}
use Rattle.tree_findings.specs.Mending.{fixes_of, AreGathered}
use Rattle.tree_findings.proofs.MendLemmas.{gathered-fit, gathered-of, chosen-of, mended-by}
use Rattle.tree_findings.proofs.mending.mend.Goals as goal

pub changes-requires-clause-fit : goal.changes-requires-clause-fit
changes-requires-clause-fit c =
    gathered-fit c.args.files.now c.args.found.now c.in_ok-choices.choices.items c.in_ok-edits.edits.items c.count.result c.count.ensures c.requires
    (chosen-of (fixes_of c.args.found.now) c.in_ok-fixes.fixes.items c.deref.result.now c.in_ok-choices.choices.items c.in_ok-fixes.ensures c.deref.ensures.value c.in_ok-choices.ensures.chosen)
    (gathered-of c.count.result (fixes_of c.args.found.now) c.in_ok-fixes.fixes.items c.deref-2.result.now c.in_ok-choices.choices.items c.deref-3.result.now c.in_ok-edits.edits.items c.in_ok-fixes.ensures c.deref-2.ensures.value c.deref-3.ensures.value c.in_ok-edits.ensures)

pub returns : goal.returns
returns c =
    mended-by c.args.files.now c.args.found.now c.in_ok-choices.choices.items c.in_ok-edits.edits.items c.in_ok-changed.changed.items c.count.result c.new.result c.new-2.result c.count.ensures
    (chosen-of (fixes_of c.args.found.now) c.in_ok-fixes.fixes.items c.deref.result.now c.in_ok-choices.choices.items c.in_ok-fixes.ensures c.deref.ensures.value c.in_ok-choices.ensures.chosen)
    (gathered-of c.count.result (fixes_of c.args.found.now) c.in_ok-fixes.fixes.items c.deref-2.result.now c.in_ok-choices.choices.items c.deref-3.result.now c.in_ok-edits.edits.items c.in_ok-fixes.ensures c.deref-2.ensures.value c.deref-3.ensures.value c.in_ok-edits.ensures)
    c.in_ok-changed.ensures c.new.ensures c.new-2.ensures
