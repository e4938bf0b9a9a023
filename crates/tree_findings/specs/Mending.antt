-- Which fixes of a tree's diagnostics are applied, and the files that these change.
use Rattle.std.specs.Prelude.{◌≡◌, ℕ, suc, ◌<◌, ◌==◌, cond, Option, Some, None, List, [], ◌∷◌, ◌++◌, length, map, get_or, flat_map}
use Rattle.std.specs.Global.{Vec}
use Rattle.gv_base.specs.Files.{Entry}
use Rattle.fix_apply.specs.declared.edits.Edit.{Edit}
use Rattle.fix_apply.specs.declared.edits.Fix.{Fix}
use Rattle.fix_apply.specs.declared.choices.Choice.{Choice}
use Rattle.fix_apply.specs.declared.choices.Choice.TheVariants.{Applied, Overlaps}
use Rattle.fix_apply.specs.Choices.{Chosen}
use Rattle.fix_apply.specs.Rewriting.{LieIn, AreApart, rewritten}
use Rattle.analysis_core.specs.declared.reply.FoundLine.{FoundLine}
use Rattle.analysis_core.specs.declared.reply.ChangedFile.{ChangedFile}
use Rattle.analysis_core.specs.Replies.{file_numbered}

-- ---- fixes

abbrev pub fix_list : Option Fix → List Fix
fix_list None = []
fix_list (Some fix) = fix ∷ []

-- the fixes of diagnostics, in their order
abbrev pub fixes_of : List FoundLine → List Fix
fixes_of found = flat_map (λ l. fix_list l.diagnostic.fix) found

-- each edit lies in the bytes, and no two overlap
pub record Fits (bytes : List ℕ) (edits : List Edit) : Type 0 where
  pub lie : LieIn bytes edits
  pub apart : AreApart edits

-- the edits of a fix can be made in its file
abbrev pub FixFits : List Entry → Fix → Type 0
FixFits tree fix = Fits (file_numbered tree fix.file).1 fix.edits

-- those of the diagnostic's fix, if it has one
abbrev pub FoundFits : List Entry → FoundLine → Type 0
FoundFits tree l = (fix : Fix) → l.diagnostic.fix ≡ Some fix → FixFits tree fix

-- ---- edits by file

-- the edits of a fix in this file
abbrev pub edits_in : ℕ → Fix → List Edit
edits_in file fix = cond (fix.file == file) fix.edits []

-- those that are made: all of a fix that is applied, none of one that is skipped
abbrev pub edits_by : ℕ → Fix → Choice → List Edit
edits_by file fix Applied = edits_in file fix
edits_by file fix (Overlaps first) = []

-- the edits of the applied fixes in this file, in the order of the fixes
abbrev pub applied_edits : ℕ → List Fix → List Choice → List Edit
applied_edits file [] choices = []
applied_edits file (fix ∷ fixes) [] = []
applied_edits file (fix ∷ fixes) (choice ∷ choices) = edits_by file fix choice ++ applied_edits file fixes choices

-- ---- files

-- what these edits make of a file: nothing where there are none
abbrev pub changed_by : Entry → List Edit → List ChangedFile
changed_by entry [] = []
changed_by entry (e ∷ es) = record { path = entry.0; bytes = rewritten entry.1 (e ∷ es) } ∷ []

-- what the edits of each make of the files from this number on
abbrev pub changes_from : (ℕ → List Edit) → ℕ → List Entry → List ChangedFile
changes_from edits n [] = []
changes_from edits n (entry ∷ entries) = changed_by entry (edits n) ++ changes_from edits (suc n) entries

-- The files that the applied fixes change, by path, each with the bytes that their edits make of it.
abbrev pub changes : List Entry → List Fix → List Choice → List ChangedFile
changes tree fixes choices = changes_from (λ n. applied_edits n fixes choices) 0 tree

-- What becomes of the fixes of these diagnostics, taken in their order, and of the files.
pub record IsMended (tree : List Entry) (found : List FoundLine) (choices : List Choice) (changed : List ChangedFile) : Type 0 where
  pub chosen : Chosen (fixes_of found) choices
  pub changed_are : changed ≡ changes tree (fixes_of found) choices

-- ---- rows of edits

abbrev pub row_at : List (Vec Edit) → ℕ → List Edit
row_at rows n = get_or (map (λ row. row.items) rows) n []

abbrev pub edits_at : List (Vec Edit) → ℕ → List Edit
edits_at rows = λ n. row_at rows n

-- the row of this file has gained these edits, and the others are as before
pub record Adds (file : ℕ) (edits : List Edit) (old new : List (Vec Edit)) : Type 0 where
  pub size : length new ≡ length old
  pub here : row_at new file ≡ row_at old file ++ edits
  pub elsewhere : (n : ℕ) → (n ≡ file → ⊥) → row_at new n ≡ row_at old n

-- for each of so many files the edits of the applied fixes
pub record AreGathered (count : ℕ) (fixes : List Fix) (choices : List Choice) (rows : List (Vec Edit)) : Type 0 where
  pub size : length rows ≡ count
  pub each : (n : ℕ) → n < count → row_at rows n ≡ applied_edits n fixes choices
