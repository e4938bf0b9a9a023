use Rattle.std.proofs.Common.{◌∙◌}
use Rattle.unit_read.specs.Subjects.{full_of}
use Rattle.elaborate.proofs.NowhereLemmas.{is_item_so}
use Rattle.elaborate.proofs.StepLemmas.{steps_nowhere}
use Rattle.elaborate.proofs.work.step_any.Goals as goal

pub step-requires-clause-item : goal.step-requires-clause-item
step-requires-clause-item g c =
    is_item_so (full_of c.args.u.now) c.args.item c.deref.result.now c.is_item.result _ (c.deref.ensures.value ∙ c.requires.work.blocks) c.is_item.ensures c.if-is_item.true

pub returns-else-is_item-clause-steps : goal.returns-else-is_item-clause-steps
returns-else-is_item-clause-steps g c =
    let u = full_of c.args.u.now in
    let other = is_item_so u c.args.item c.deref.result.now c.is_item.result _ (c.deref.ensures.value ∙ c.requires.work.blocks) c.is_item.ensures c.if-is_item.false in
    steps_nowhere g.R.Rules.rule c.args.u.now c.args.s.now c.args.item c.requires.item other c.requires.unmarked
