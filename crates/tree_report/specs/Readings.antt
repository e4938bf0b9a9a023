-- What is told of the files of a tree, file by file.
use Rattle.std.specs.Prelude.{◌≡◌, ◌<◌, ◌≤◌, ◌+◌, ◌^◌, ℕ, Some, List, [], ◌∷◌, All, length, slice_get}
use Rattle.gv_base.specs.Files.{Entry}
use Rattle.tree_report.specs.Keeping.{IsHeard}
use Rattle.tree_report.specs.Limits.{limited_sizes}
use Rattle.tree_report.specs.Telling.{IsTold}
use Rattle.tree_report.specs.declared.heard.Heard.{Heard}
use Rattle.tree_report.specs.declared.read.Told.{Told}
use Rattle.tree_report.specs.declared.readings.Reading.{Reading}

-- a job for each of the first few files, in order
pub record AreReadings (count : ℕ) (list : List Reading) : Type 0 where
  pub size : length list ≡ count
  pub few : count < 2 ^ 32
  pub each : (k : ℕ) (reading : Reading) → slice_get list k ≡ Some reading → reading.file ≡ k

-- a file of a tree within the limits can be told
pub record MayTell (tree : List Entry) (heard : Heard) (file : ℕ) : Type 0 where
  pub low : file < length tree
  pub small : All (λ size. size ≤ 4194304) (limited_sizes tree)
  pub kept : IsHeard heard

-- this is told of the file of this number
abbrev pub IsToldAt : List Entry → ℕ → Told → Type 0
IsToldAt tree file told = (entry : Entry) × (slice_get tree file ≡ Some entry) × IsTold entry told

-- and this of the files from this number on
abbrev pub AreToldFrom : List Entry → ℕ → List Told → Type 0
AreToldFrom tree n [] = n ≡ length tree
AreToldFrom tree n (t ∷ more) = IsToldAt tree n t × AreToldFrom tree (n + 1) more
