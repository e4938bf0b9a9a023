use Rattle.std.proofs.Common.{◌≡◌, ◌<◌, length, get_or, ap, ◌∙◌, subst, arith}
use Rattle.fix_apply.specs.Choices.{fix_at}
use Rattle.fix_apply.proofs.ClaimSteps.{passed_more, all_passed, claim_finish}
use Rattle.std.proofs.lemmas.List.{get_or_default}
use Rattle.fix_apply.proofs.choices.claim_by_fix.Goals as goal

pub loop-edit-preserved : goal.loop-edit-preserved
loop-edit-preserved c =
    let fix = fix_at c.args.fixes.now c.args.fix in
    let slots = c.args.slots.now in
    let edits : c.as_slice-edit-items.result.now ≡ fix.edits = c.as_slice-edit-items.ensures ∙ ap (λ f. f.edits) (get_or_default c.args.fixes.now c.args.fix c.index-fixes-fix.result _ c.requires.within) in
    let edit = c.edit-item.result in
    let index = c.loop-edit.edit-index in
    let is : edit ≡ get_or fix.edits index edit = c.edit-item.is ∙ ap (λ l. get_or l index edit) edits in
    let within : index < length fix.edits = subst (λ l. index < length l) edits c.loop-edit-test.true in
    record {
      claiming = c.claim_by_edit.ensures.claiming;
      passed = passed_more slots c.loop-edit.nodes.items c.claim_by_edit.new.nodes.items fix.file fix.edits index edit c.loop-edit.invariant.passed c.claim_by_edit.ensures.closes within is c.claim_by_edit.ensures.passed;
    }

pub returns : goal.returns
returns c =
    let fix = fix_at c.args.fixes.now c.args.fix in
    let edits : c.as_slice-edit-items.result.now ≡ fix.edits = c.as_slice-edit-items.ensures ∙ ap (λ f. f.edits) (get_or_default c.args.fixes.now c.args.fix c.index-fixes-fix.result _ c.requires.within) in
    let all : c.loop-edit.edit-index ≡ length fix.edits = (omega (arith, c.loop-edit-test.false)) ∙ ap length edits in
    claim_finish c.args.fixes.now c.args.slots.now c.args.fix c.loop-edit.nodes.items c.loop-edit.choices.items c.loop-edit.invariant.claiming
    (all_passed c.args.slots.now c.loop-edit.nodes.items fix.file fix.edits c.loop-edit.edit-index c.loop-edit.invariant.passed all)
