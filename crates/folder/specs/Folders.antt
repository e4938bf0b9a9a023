-- The files of a tree outside.
use Rattle.std.specs.Prelude.{◌≡◌, ℕ, ◌≤◌, All, Bool, true, List, length, take, map, filter, fold, Option, Some, None, Result, Ok, Err, if◌then◌else◌}
use Rattle.gv_base.specs.Counts.{Rose}
use Rattle.gv_base.specs.Files.{Entry, file_at, put_file}
use Rattle.gv_base.specs.Paths.{IsPath}
use Rattle.gv_base.specs.Trees.{front_of}
use Rattle.gv_base.specs.declared.fault.Denied.{Denied}
use Rattle.disk.specs.Names.{is_chosen}
use Rattle.analysis_core.specs.declared.reply.ChangedFile.{ChangedFile}

-- the count of faults doesn't fall, and this holds only where it rose
pub record OnlyWhereRose (before now : ℕ) (Fact : Type 0) : Type 0 where
  pub later : before ≤ now
  pub cause : Fact → Rose before now

-- ---- reading

-- a run reads `go.mod` and the source files, which are those that a folder of the system lists
abbrev pub is_read : List ℕ → Bool
is_read path = is_chosen path

-- a file with its first bytes
abbrev pub front : ℕ → Entry → Entry
front most file = (file.0, take most file.1)

-- The files that a run reads of these, each with at most so many of its first bytes.
abbrev pub fronts : ℕ → List Entry → List Entry
fronts most files = map (front most) (filter (λ file. is_read file.0) files)

-- what was read of a tree, where it tells what it holds
abbrev pub ReadsFronts : ℕ → Option (List Entry) → List Entry → Type 0
ReadsFronts most None read = Unit {0}
ReadsFronts most (Some files) read = read ≡ fronts most files

-- the files that were read, and the file of this path, where a run reads it
abbrev pub with_front : ℕ → List Entry → List Entry → List ℕ → List Entry
with_front most held files path = if is_read path then put_file files path (front_of most (file_at held path)) else files

-- files as a run reads them: of paths that it reads, and with at most so many bytes
abbrev pub AreFitting : ℕ → List Entry → Type 0
AreFitting most files = All (λ (e : Entry). (is_read e.0 ≡ true) × (length e.1 ≤ most)) files

-- each file stands at a path
abbrev pub AreAtPaths : List Entry → Type 0
AreAtPaths files = All (λ (e : Entry). IsPath e.0) files

-- ---- writing

-- what a tree holds, where it tells
abbrev pub IsTold : Option (List Entry) → List Entry → Type 0
IsTold None files = Unit {0}
IsTold (Some held) files = held ≡ files

-- the files after these are changed, one after the other
abbrev pub put_all : List Entry → List ChangedFile → List Entry
put_all files changed = fold (λ (t : List Entry) (c : ChangedFile). put_file t c.path c.bytes) files changed

-- The files after a writing of changed files: all of them are written, or the first so many.
abbrev pub WritesTo : List Entry → List ChangedFile → Option (List Entry) → Result (Unit {0}) Denied → Type 0
WritesTo files changed new (Ok done) = IsTold new (put_all files changed)
WritesTo files changed new (Err e) = (n : ℕ) × (n ≤ length changed) × IsTold new (put_all files (take n changed))
