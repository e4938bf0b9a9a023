use Rattle.std.proofs.Common.{◌≡◌}
use Rattle.fix_apply.specs.Slots.{slots_below}
use Rattle.fix_apply.proofs.slot.all_slots.Given as goal

abbrev pub invariant-loop-number : goal.invariant-loop-number
invariant-loop-number l = l.slots.items ≡ slots_below l.fixes l.number
