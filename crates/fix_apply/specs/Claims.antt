-- How far the choice of fixes has come.
use Rattle.std.specs.Prelude.{◌≡◌, ◌≢◌, ◌<◌, ◌+◌, ◌⊎◌, ◌&&◌, ℕ, zero, suc, Bool, true, false, nat_lt, List, length, slice_set, if◌then◌else◌}
use Rattle.fix_apply.specs.declared.edits.Edit.{Edit}
use Rattle.fix_apply.specs.declared.edits.Fix.{Fix}
use Rattle.fix_apply.specs.declared.choices.Choice.{Choice}
use Rattle.fix_apply.specs.declared.choices.Choice.TheVariants.{Applied, Overlaps}
use Rattle.fix_apply.specs.declared.slot.Slot.{Slot}
use Rattle.fix_apply.specs.declared.tree.Node.{Node}
use Rattle.fix_apply.specs.Choices.{choice_at, Blocks}
use Rattle.fix_apply.specs.Slots.{AreSlots}
use Rattle.fix_apply.specs.Trees.{slot_at, node_at, IsTree, IsOpen, Meets}

-- the choice of a fix is right as far as the fixes below `done` go; what blocks it stands below `bound`
abbrev pub RightUpTo : List Fix → List Choice → ℕ → ℕ → ℕ → Choice → Type 0
RightUpTo fixes choices done bound number Applied = (earlier : ℕ) → earlier < done → ¬ (Blocks fixes choices earlier number)
RightUpTo fixes choices done bound number (Overlaps first) = (first < bound) × Blocks fixes choices first number × ((earlier : ℕ) → earlier < first → ¬ (Blocks fixes choices earlier number))

-- a closed slot is of a fix below `bound`, or of one that isn't applied
abbrev pub IsDecided : List Slot → List Choice → ℕ → ℕ → Type 0
IsDecided slots choices bound p = ((slot_at slots p).fix < bound) ⊎ (choice_at choices (slot_at slots p).fix ≢ Applied)

pub record Claims (fixes : List Fix) (slots : List Slot) (done bound : ℕ) (nodes : List Node) (choices : List Choice) : Type 0 where
  pub size : length choices ≡ length fixes
  pub are : AreSlots fixes slots
  pub tree : IsTree slots nodes
  pub closed : (p : ℕ) → p < length slots → ¬ (IsOpen slots nodes p) → IsDecided slots choices bound p
  pub right : (number : ℕ) → number < length fixes → RightUpTo fixes choices done bound number (choice_at choices number)

-- while the edits of the applied fix `fix` are gone through
pub record Claiming (fixes : List Fix) (slots : List Slot) (fix : ℕ) (nodes : List Node) (choices : List Choice) : Type 0 where
  pub claims : Claims fixes slots fix (fix + 1) nodes choices
  pub within : fix < length fixes
  pub applied : choice_at choices fix ≡ Applied

-- no open slot meets the edit
abbrev pub IsPassedBy : List Slot → List Node → ℕ → Edit → Type 0
IsPassedBy slots nodes file edit = (p : ℕ) → p < length slots → Meets (slot_at slots p) file edit.start edit.end → ¬ (IsOpen slots nodes p)

-- no slot is opened
abbrev pub OnlyCloses : List Slot → List Node → List Node → Type 0
OnlyCloses slots old new = (p : ℕ) → p < length slots → IsOpen slots new p → IsOpen slots old p

abbrev pub is_applied : Choice → Bool
is_applied Applied = true
is_applied (Overlaps first) = false

-- the choices after `fix` has claimed a fix, if that is a later one that none has claimed
abbrev pub claimed_by : List Choice → ℕ → ℕ → List Choice
claimed_by choices fix claimed = if nat_lt fix claimed && is_applied (choice_at choices claimed) then slice_set choices claimed (Overlaps fix) else choices

-- how many of the first slots are open
abbrev pub open_of : List Slot → List Node → ℕ → ℕ
open_of slots nodes zero = 0
open_of slots nodes (suc count) = open_of slots nodes count + (if nat_lt 0 (node_at nodes (length slots + count)).reach then 1 else 0)
