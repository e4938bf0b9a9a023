use Rattle.std.proofs.Common.{length, subst, arith}
use Rattle.fix_apply.specs.Trees.{Hits}
use Rattle.fix_apply.proofs.ClaimSteps.{claim_step, closes_one, open_less}
use Rattle.fix_apply.proofs.choices.claim_by_edit.Goals as goal

pub loop-p-smaller : goal.loop-p-smaller
loop-p-smaller c =
    let slots = c.args.slots.now in
    open_less slots c.loop-p.nodes.items c.close.new.nodes.items c.in-Some.p (length slots) c.close.ensures.others c.in-Some.ensures.within (omega arith) c.in-Some.ensures.is_open c.close.ensures.closed

pub loop-p-preserved : goal.loop-p-preserved
loop-p-preserved c =
    let slots = c.args.slots.now in
    let edit = c.args.edit.now in
    record {
      claiming = claim_step c.args.fixes.now slots c.args.fix c.loop-p.nodes.items c.close.new.nodes.items c.loop-p.choices.items c.claim.new.choices.items c.in-Some.p edit c.loop-p.invariant.claiming c.requires.of (subst (λ file. Hits slots c.loop-p.nodes.items c.in-Some.p file edit.start edit.end) c.loop-p.invariant.of_fix c.in-Some.ensures) c.close.ensures.tree c.close.ensures.others c.claim.ensures;
      closes = closes_one slots c.args.nodes.now.items c.loop-p.nodes.items c.close.new.nodes.items c.in-Some.p c.loop-p.invariant.closes c.close.ensures.others c.close.ensures.closed;
      of_fix = c.loop-p.invariant.of_fix;
    }
