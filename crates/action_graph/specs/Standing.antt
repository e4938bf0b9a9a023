-- Where diagnostics of a package stand.
use Rattle.std.specs.Prelude.{◌≡◌, ℕ, ◌<◌, ◌≤◌, Option, Some, None, List, [], length, map, get_or, All}
use Rattle.fix_apply.specs.declared.edits.Fix.{Fix}
use Rattle.fix_apply.specs.Rewriting.{LieIn, AreApart}
use Rattle.analysis_core.specs.declared.diagnostic.Diagnostic.{Diagnostic}
use Rattle.action_graph.specs.Nodes.{Named}
use Rattle.action_graph.specs.Judging.{text_of}
use Rattle.action_graph.specs.Work.{IsAnalyzer}

-- the bytes of the file of this number; none where there is no such file
abbrev pub bytes_at : List Named → ℕ → List ℕ
bytes_at files file = get_or (map text_of files) file []

-- a fix of this file, whose edits lie in these bytes, no two overlapping
pub record IsFixOf (file : ℕ) (bytes : List ℕ) (fix : Fix) : Type 0 where
  pub file_is : fix.file ≡ file
  pub lie : LieIn bytes fix.edits
  pub apart : AreApart fix.edits

abbrev pub CanBeMade : ℕ → List ℕ → Option Fix → Type 0
CanBeMade file bytes None = Unit {0}
CanBeMade file bytes (Some fix) = IsFixOf file bytes fix

-- of an analyzer, in one of the files, at its end at most; and where it has a fix, that can be made there
pub record IsFoundIn (files : List Named) (d : Diagnostic) : Type 0 where
  pub analyzer : IsAnalyzer d.analyzer
  pub file : d.place.file < length files
  pub offset : d.place.offset ≤ length (bytes_at files d.place.file)
  pub fix : CanBeMade d.place.file (bytes_at files d.place.file) d.fix

-- and of this analyzer
abbrev pub IsFoundBy : List Named → ℕ → Diagnostic → Type 0
IsFoundBy files a d = (d.analyzer ≡ a) × IsFoundIn files d

abbrev pub AllFound : List Named → ℕ → List Diagnostic → Type 0
AllFound files a ds = All (IsFoundBy files a) ds
