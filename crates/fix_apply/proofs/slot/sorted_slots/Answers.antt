use Rattle.fix_apply.proofs.SlotLists.{are_slots}
use Rattle.fix_apply.proofs.slot.sorted_slots.Goals as goal

pub returns : goal.returns
returns c = are_slots _ _ _ _ c.in_ok-slots.ensures c.in_ok-sort_by_key.ensures.permutation c.in_ok-sort_by_key-2.ensures.permutation
