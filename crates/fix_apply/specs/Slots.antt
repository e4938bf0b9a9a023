-- The edits of all fixes in one list.
use Rattle.std.specs.Prelude.{◌≡◌, ◌<◌, ℕ, List, length, map}
use Rattle.std.specs.List.{All, Contains, flat_map, range_with_len}
use Rattle.fix_apply.specs.declared.edits.Edit.{Edit}
use Rattle.fix_apply.specs.declared.edits.Fix.{Fix}
use Rattle.fix_apply.specs.declared.slot.Slot.{Slot}
use Rattle.fix_apply.specs.Choices.{fix_at}

-- the slot of an edit of the fix with this number
abbrev pub slot_of : Fix → ℕ → Edit → Slot
slot_of fix number edit = record { file = fix.file; start = edit.start; end = edit.end; fix = number }

-- the slots of one fix, and of the fixes below a number
abbrev pub slots_of : List Fix → ℕ → List Slot
slots_of fixes number = map (slot_of (fix_at fixes number) number) (fix_at fixes number).edits

abbrev pub slots_below : List Fix → ℕ → List Slot
slots_below fixes count = flat_map (slots_of fixes) (range_with_len 0 count)

-- the slot of an edit of some fix
pub record IsSlotOf (fixes : List Fix) (slot : Slot) : Type 0 where
  pub number : slot.fix < length fixes
  pub edit : Edit
  pub of : Contains (fix_at fixes slot.fix).edits edit
  pub is : slot ≡ slot_of (fix_at fixes slot.fix) slot.fix edit

-- the slots of all edits
pub record AreSlots (fixes : List Fix) (slots : List Slot) : Type 0 where
  pub each : All (IsSlotOf fixes) slots
  pub all : (number : ℕ) (edit : Edit) → number < length fixes → Contains (fix_at fixes number).edits edit → Contains slots (slot_of (fix_at fixes number) number edit)
