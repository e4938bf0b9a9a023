-- The bytes of a file after edits.
use Rattle.std.specs.Prelude.{◌≤◌, ◌==◌, ◌&&◌, ◌+◌, ℕ, Bool, not, nat_le, nat_lt, List, [], ◌∷◌, ◌++◌, length, slice_index, if◌then◌else◌}
use Rattle.std.specs.List.{All, AllPairs, flat_map, list_any, range_with_len}
use Rattle.fix_apply.specs.declared.edits.Edit.{Edit}
use Rattle.fix_apply.specs.Edits.{Overlap}

-- each edit lies in the bytes
abbrev pub LieIn : List ℕ → List Edit → Type 0
LieIn bytes edits = All (λ e. (e.start ≤ e.end) × (e.end ≤ length bytes)) edits

-- no two edits overlap
abbrev pub AreApart : List Edit → Type 0
AreApart edits = AllPairs (λ a b. ¬ (Overlap a b)) edits

-- the text that an edit inserts at the offset: its own where it starts there
abbrev pub text_at : ℕ → Edit → List ℕ
text_at at e = if e.start == at then e.text else []

-- an edit covers the byte at the offset
abbrev pub covers : ℕ → Edit → Bool
covers at e = nat_le e.start at && nat_lt at e.end

-- the inserted text of the edit that starts at the offset
abbrev pub inserted : List Edit → ℕ → List ℕ
inserted edits at = flat_map (text_at at) edits

-- the byte at the offset, unless the bytes end there or an edit covers it
abbrev pub kept : List ℕ → List Edit → ℕ → List ℕ
kept bytes edits at = if nat_lt at (length bytes) && not (list_any (covers at) edits) then slice_index bytes at ∷ [] else []

-- at each offset from 0 to the length the inserted text, and then the byte unless an edit covers it
abbrev pub rewritten : List ℕ → List Edit → List ℕ
rewritten bytes edits = flat_map (λ at. inserted edits at ++ kept bytes edits at) (range_with_len 0 (length bytes + 1))
