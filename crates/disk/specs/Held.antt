-- What a disk's calls do to the files that it holds.
use Rattle.std.specs.Prelude.{◌≡◌, ◌⊎◌, ℕ, ◌≤◌, List, [], ◌∷◌, ◌++◌, length, take, codes, Bool, Option, None, Some, Result, Ok, Err, IfOk, OnOk, OnErr, Vec, if◌then◌else◌}
use Rattle.std.specs.Option.{option_map}
use Rattle.std.specs.Global.{Global}
use Rattle.gv_base.specs.declared.fault.Denied.{Denied}
use Rattle.gv_base.specs.Files.{Entry, file_at}
use Rattle.gv_base.specs.Keepers.{bytes_of}
use Rattle.gv_base.specs.Paths.{IsPath}
use Rattle.import_graph.specs.Sources.{directory_of}

-- the path of the file that is written beside this one
abbrev pub beside : List ℕ → List ℕ
beside path = directory_of path ++ codes ".gvet-new"

-- a path that is so written
pub record IsBeside (path : List ℕ) : Type 0 where
  pub lawful : IsPath path
  pub of : List ℕ
  pub is : path ≡ beside of

-- the path has what it had
abbrev pub IsSame : List Entry → List Entry → List ℕ → Type 0
IsSame old new path = file_at new path ≡ file_at old path

-- a relation of what is held before and after, where it is told; what isn't told before isn't told after
abbrev pub Tells : Option (List Entry) → Option (List Entry) → (List Entry → List Entry → Type 0) → Type 0
Tells None new R = new ≡ None
Tells (Some old) None R = ⊥
Tells (Some old) (Some new) R = R old new

-- what a reading gives: the front of the file, or that there is none
abbrev pub IsFrontOf : Option (List Entry) → List ℕ → ℕ → Option (List ℕ) → Type 0
IsFrontOf None path most got = Unit {0}
IsFrontOf (Some files) path most got = got ≡ option_map (λ bytes. take most bytes) (file_at files path)

-- nothing but the file of this path changes
abbrev pub OthersStay : List Entry → List Entry → List ℕ → Type 0
OthersStay old new path = (q : List ℕ) → (q ≡ path → ⊥) → IsSame old new q

-- one file is written; where that is denied, it holds whatever
pub record Writes (path bytes : List ℕ) (result : Result (Unit {0}) Denied) (old new : List Entry) : Type 0 where
  pub others : OthersStay old new path
  pub done : OnOk result (file_at new path ≡ Some bytes)

-- one file is moved onto another, at one stroke
pub record IsMoved («from» to : List ℕ) (old new : List Entry) : Type 0 where
  pub here : file_at new to ≡ file_at old «from»
  pub others : (q : List ℕ) → (q ≡ to → ⊥) → (q ≡ «from» → ⊥) → IsSame old new q

-- where that is denied, it was done or nothing was
abbrev pub Moves : List ℕ → List ℕ → Result (Unit {0}) Denied → List Entry → List Entry → Type 0
Moves «from» to (Ok done) old new = IsMoved «from» to old new
Moves «from» to (Err e) old new = ((q : List ℕ) → IsSame old new q) ⊎ IsMoved «from» to old new

-- one file is replaced; where that is denied, it has the old or the new bytes. What stands beside it is nobody's.
pub record Replaces (path bytes : List ℕ) (result : Result (Unit {0}) Denied) (old new : List Entry) : Type 0 where
  pub others : (q : List ℕ) → (q ≡ path → ⊥) → (q ≡ beside path → ⊥) → IsSame old new q
  pub done : OnOk result (file_at new path ≡ Some bytes)
  pub denied : OnErr result ((file_at new path ≡ file_at old path) ⊎ (file_at new path ≡ Some bytes))
