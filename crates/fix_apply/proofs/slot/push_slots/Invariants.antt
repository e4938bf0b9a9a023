use Rattle.std.proofs.Common.{◌≡◌, ◌++◌, map, take}
use Rattle.fix_apply.specs.Slots.{slot_of}
use Rattle.fix_apply.proofs.slot.push_slots.Given as goal

abbrev pub invariant-loop-edit : goal.invariant-loop-edit
invariant-loop-edit l = l.slots.items ≡ l.initial.slots.items ++ map (slot_of l.fix l.number) (take l.edit-index l.edit-items)
