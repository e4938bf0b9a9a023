use Rattle.std.proofs.Common.{◌≡◌, ◌<◌, ◌+◌, length, sym, ap, ◌∙◌, subst, arith}
use Rattle.std.proofs.lemmas.List.{get_or_read}
use Rattle.fix_apply.specs.Choices.{choice_at}
use Rattle.fix_apply.specs.Claims.{Claims, is_applied}
use Rattle.fix_apply.proofs.ClaimSteps.{claim_skip, claim_end}
use Rattle.fix_apply.proofs.OneChoice.{one_choice}
use Rattle.fix_apply.proofs.choices.choose.Goals as goal
use Rattle.fix_apply.proofs.choices.choose.Goals.{then-is_applied, else-is_applied}

pub loop-number-preserved : goal.loop-number-preserved
loop-number-preserved c =
    let number = c.loop-number.number in
    let fixes = c.args.fixes.now in
    let slots = c.in_ok-slots.slots.items in
    let choices = c.loop-number.choices.items in
    let below : number < length choices = omega (arith, c.loop-number-test.true, c.loop-number.invariant.size) in
    let read : c.index.result.now ≡ choice_at choices number = get_or_read choices number _ below c.index.ensures _ in
    elim c.if-is_applied.branch [
      | then-is_applied w ↦
          subst (λ n. Claims fixes slots (number + 1) (number + 1) n.items c.if-is_applied.choices.items) (sym w.nodes-is)
          (subst (λ n. Claims fixes slots (number + 1) (number + 1) w.claim_by_fix.new.nodes.items n.items) (sym w.choices-is)
          (subst (λ s. Claims fixes s (number + 1) (number + 1) w.claim_by_fix.new.nodes.items w.claim_by_fix.new.choices.items) w.deref-then-is_applied.ensures.value w.claim_by_fix.ensures))
      | else-is_applied w ↦
          subst (λ n. Claims fixes slots (number + 1) (number + 1) n.items c.if-is_applied.choices.items) (sym w.nodes-is)
          (subst (λ n. Claims fixes slots (number + 1) (number + 1) c.loop-number.nodes.items n.items) (sym w.choices-is)
          (claim_skip fixes slots number c.loop-number.nodes.items choices c.loop-number.invariant (sym (ap is_applied read) ∙ sym c.is_applied.ensures ∙ w.if-is_applied.false)))
    ]

pub returns-clause-only : goal.returns-clause-only
returns-clause-only c = λ other is.
    let all : c.loop-number.number ≡ length c.args.fixes.now = omega (arith, c.loop-number-test.false) in
    one_choice c.args.fixes.now c.loop-number.choices.items other (claim_end c.args.fixes.now c.in_ok-slots.slots.items c.loop-number.nodes.items c.loop-number.choices.items c.loop-number.number all c.loop-number.invariant) is
