use Rattle.fix_apply.proofs.SlotLists.{slots_more}
use Rattle.fix_apply.proofs.slot.all_slots.Goals as goal

pub loop-number-preserved : goal.loop-number-preserved
loop-number-preserved c = slots_more _ _ _ _ _ c.loop-number-test.true c.index-fixes-number.is c.loop-number.invariant c.in_ok-push_slots.ensures
