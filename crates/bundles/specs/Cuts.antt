-- Where a text is cut: at the first of some marks.
use Rattle.std.specs.Prelude.{◌≡◌, ◌<◌, ◌++◌, ℕ, List, length, take, drop}

-- the mark stands in the bytes at this place
abbrev pub StandsAt : List ℕ → List ℕ → ℕ → Type 0
StandsAt bytes mark at = take (length mark) (drop at bytes) ≡ mark

-- what stands before the first mark, and what stands behind that mark
pub record IsCut (bytes mark before behind : List ℕ) : Type 0 where
  pub whole : bytes ≡ before ++ (mark ++ behind)
  pub first : (at : ℕ) → at < length before → ¬ (StandsAt bytes mark at)

-- no mark stands in the bytes
abbrev pub IsNowhere : List ℕ → List ℕ → Type 0
IsNowhere bytes mark = (at : ℕ) → at < length bytes → ¬ (StandsAt bytes mark at)
