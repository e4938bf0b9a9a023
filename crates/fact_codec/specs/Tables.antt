-- A table of facts as the list of its names and facts, in order of the names.
use Rattle.std.specs.Prelude.{◌≡◌, ℕ, ◌+◌, ◌<◌, ◌≤◌, List, [], ◌∷◌, ◌++◌, length, filter, Bool, true, false, Option, Some, None, slice_index_or, if◌then◌else◌, Result, Ok, Err, AllPairs}
use Rattle.std.specs.Str.{bytes_eq}
use Rattle.gv_base.specs.Files.{is_before}

-- each name comes before those behind it
abbrev pub AreInOrder : {F : Type 0} → List (List ℕ × F) → Type 0
AreInOrder table = AllPairs (λ e f. is_before e.0 f.0 ≡ true) table

-- the fact of a name, if there is one
abbrev pub fact_of : {F : Type 0} → List (List ℕ × F) → List ℕ → Option F
fact_of [] name = None
fact_of (e ∷ es) name = if bytes_eq e.0 name then Some e.1 else fact_of es name

-- the entries before this name, this one, and those after it
abbrev pub put_fact : {F : Type 0} → List (List ℕ × F) → List ℕ → F → List (List ℕ × F)
put_fact table name fact = filter (λ e. is_before e.0 name) table ++ (name, fact) ∷ filter (λ e. is_before name e.0) table

-- the entries from `from` up to `upto` have this name, those below stand before it and the others after it
pub record IsSplit {F : Type 0} (table : List (List ℕ × F)) (name : List ℕ) («from» upto : ℕ) : Type 0 where
  pub within : upto ≤ length table
  pub risen : «from» ≤ upto
  pub below : (k : ℕ) (d : List ℕ × F) → k < «from» → is_before (slice_index_or table k d).0 name ≡ true
  pub same : (k : ℕ) (d : List ℕ × F) → «from» ≤ k → k < upto → (slice_index_or table k d).0 ≡ name
  pub above : (k : ℕ) (d : List ℕ × F) → upto ≤ k → k < length table → is_before name (slice_index_or table k d).0 ≡ true

-- where a name is held, or would stand
abbrev pub IsPlaceOf : {F : Type 0} → List (List ℕ × F) → List ℕ → Result ℕ ℕ → Type 0
IsPlaceOf table name (Ok at) = IsSplit table name at (at + 1)
IsPlaceOf table name (Err at) = IsSplit table name at at

-- each name comes before the next, the first one after this name
abbrev pub rises_from : {F : Type 0} → List ℕ → List (List ℕ × F) → Bool
rises_from name [] = true
rises_from name (e ∷ es) = if is_before name e.0 then rises_from e.0 es else false

-- the names are distinct and in byte order
abbrev pub names_rise : {F : Type 0} → List (List ℕ × F) → Bool
names_rise [] = true
names_rise (e ∷ es) = rises_from e.0 es
