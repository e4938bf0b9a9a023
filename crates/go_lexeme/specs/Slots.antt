-- A table of spellings, looked up by slots: the first two bytes and the size of a spelling tell its slot.
use Rattle.std.specs.Prelude.{ℕ, Bool, false, slice_index_or, ◌+◌, ◌*◌, ◌%◌, ◌&&◌, nat_lt, List, [], Option, Some, None, length, get_or, slice_index, bytes_eq, if◌then◌else◌}

abbrev pub slot_of : List ℕ → ℕ
slot_of word = (slice_index word 0 * 7 + slice_index word 1 * 6 + length word % 128) % 128

-- the place that the slot of a word tells, if the word stands there
unfoldable pub slot_place : List (List ℕ) → List ℕ → List ℕ → Option ℕ
slot_place table slots word =
    let place = slice_index slots (slot_of word) in
    if nat_lt place (length table) && bytes_eq (get_or table place []) word then Some place else None

-- the flag of a byte
unfoldable pub flag_at : List Bool → ℕ → Bool
flag_at flags b = slice_index_or flags b false
