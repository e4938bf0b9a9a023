-- Edits in the order of their starts.
use Rattle.std.specs.Prelude.{◌≡◌, ◌<◌, ◌≤◌, ◌≢◌, ℕ, List, length, slice_index_or}
use Rattle.std.specs.List.{All}
use Rattle.std.specs.List.Sorted.{IsNonDecreasingBy}
use Rattle.fix_apply.specs.declared.edits.Edit.{Edit}
use Rattle.fix_apply.specs.declared.rewriting.Spot.{Spot}
use Rattle.fix_apply.specs.declared.rewriting.Cursor.{Cursor}

-- a spot of one of the edits
pub record IsSpot (edits : List Edit) (spot : Spot) : Type 0 where
  pub within : spot.number < length edits
  pub starts : (d : Edit) → spot.start ≡ (slice_index_or edits spot.number d).start

-- the first spots are those of the first edits
pub record AreSpots (edits : List Edit) (spots : List Spot) (count : ℕ) : Type 0 where
  pub size : length spots ≡ count
  pub each : All (IsSpot edits) spots
  pub numbers : (k : ℕ) (d : Spot) → k < count → (slice_index_or spots k d).number ≡ k

-- the spots of all edits, in the order of their starts
pub record IsOrder (edits : List Edit) (spots : List Spot) : Type 0 where
  pub each : All (IsSpot edits) spots
  pub rises : IsNonDecreasingBy (λ s. s.start) spots
  pub all : (number : ℕ) → number < length edits → (k : ℕ) × (k < length spots) × ((d : Spot) → (slice_index_or spots k d).number ≡ number)

-- the spots below `next` start before the offset
abbrev pub IsPassed : List Spot → ℕ → ℕ → Type 0
IsPassed spots next at = (k : ℕ) (d : Spot) → k < next → (slice_index_or spots k d).start < at

-- where there is a spot `next`, it starts at the offset or later
abbrev pub StopsAt : List Spot → ℕ → ℕ → Type 0
StopsAt spots next at = (d : Spot) → next < length spots → at ≤ (slice_index_or spots next d).start

-- no edit starts at the offset
abbrev pub NoneStarts : List Edit → ℕ → Type 0
NoneStarts edits at = (i : ℕ) (d : Edit) → i < length edits → (slice_index_or edits i d).start ≢ at

-- the edit of this number starts at the offset
abbrev pub Starts : List Edit → ℕ → ℕ → Type 0
Starts edits number at = (number < length edits) × ((d : Edit) → (slice_index_or edits number d).start ≡ at)

-- how far a rewriting has come: the edits that start before the offset end at `covered_to` at the
-- latest, and one of them ends there
pub record Stands (edits : List Edit) (spots : List Spot) (cursor : Cursor) (at : ℕ) : Type 0 where
  pub passed : IsPassed spots cursor.next at
  pub bound : (i : ℕ) (d : Edit) → i < length edits → (slice_index_or edits i d).start < at → (slice_index_or edits i d).end ≤ cursor.covered_to
  pub comes : 0 < cursor.covered_to → (i : ℕ) × (i < length edits) × ((d : Edit) → ((slice_index_or edits i d).start < at) × ((slice_index_or edits i d).end ≡ cursor.covered_to))
