-- Which of several fixes are applied. Fixes are numbered from 0 in the order in which they are taken.
use Rattle.std.specs.Prelude.{◌≡◌, ◌<◌, ℕ, List, [], length, slice_index_or}
use Rattle.std.specs.List.{Contains}
use Rattle.fix_apply.specs.declared.edits.Edit.{Edit}
use Rattle.fix_apply.specs.declared.edits.Fix.{Fix}
use Rattle.fix_apply.specs.declared.choices.Choice.{Choice}
use Rattle.fix_apply.specs.declared.choices.Choice.TheVariants.{Applied, Overlaps}
use Rattle.fix_apply.specs.Edits.{Overlap}

-- the fix of a number; past the end a fix with no edits
abbrev pub fix_at : List Fix → ℕ → Fix
fix_at fixes number = slice_index_or fixes number (record { file = 0; edits = [] })

-- the choice of a number
abbrev pub choice_at : List Choice → ℕ → Choice
choice_at choices number = slice_index_or choices number Applied

-- two fixes of one file, of which some edits overlap
pub record Clash (a b : Fix) : Type 0 where
  pub file : a.file ≡ b.file
  pub left : Edit
  pub right : Edit
  pub of_a : Contains a.edits left
  pub of_b : Contains b.edits right
  pub overlap : Overlap left right

-- an earlier applied fix with which the fix clashes
pub record Blocks (fixes : List Fix) (choices : List Choice) (earlier number : ℕ) : Type 0 where
  pub before : earlier < number
  pub applied : choice_at choices earlier ≡ Applied
  pub clash : Clash (fix_at fixes earlier) (fix_at fixes number)

-- a fix is applied exactly where no earlier applied fix blocks it; else the first that does is named
abbrev pub IsRight : List Fix → List Choice → ℕ → Choice → Type 0
IsRight fixes choices number Applied = (earlier : ℕ) → ¬ (Blocks fixes choices earlier number)
IsRight fixes choices number (Overlaps first) = Blocks fixes choices first number × ((earlier : ℕ) → earlier < first → ¬ (Blocks fixes choices earlier number))

-- the choices of all fixes
pub record Chosen (fixes : List Fix) (choices : List Choice) : Type 0 where
  pub size : length choices ≡ length fixes
  pub each : (number : ℕ) → number < length fixes → IsRight fixes choices number (choice_at choices number)
