-- Where the marks of a package stand.
use Rattle.std.specs.Prelude.{◌≡◌, ℕ, ◌<◌, ◌≤◌, Option, Some, None, List, [], length, map, get_or, slice_get, All}
use Rattle.action_graph.specs.Nodes.{Named}
use Rattle.fix_apply.specs.declared.edits.Edit.{Edit}
use Rattle.fix_apply.specs.declared.edits.Fix.{Fix}
use Rattle.fix_apply.specs.Edits.{Overlap}
use Rattle.gv_base.specs.declared.place.Place.{Place}
use Rattle.analysis_core.specs.declared.diagnostic.Diagnostic.{Diagnostic}
use Rattle.action_graph.specs.Judging.{text_of}
use Rattle.action_graph.specs.Standing.{IsFoundIn}
use Rattle.action_graph.specs.Work.{IsAnalyzer}
use Rattle.action_graph.specs.declared.marks.MarkLine.{MarkLine}
use Rattle.gv_driver.specs.declared.tree.PackageTexts.{PackageTexts}
use Rattle.gv_driver.specs.declared.reply.Verdict.{Verdict}
use Rattle.gv_driver.specs.declared.reply.Verdict.TheVariants.{Faulty, Blocked, Refused, Accepted}

-- in one of the files, at its end at most
pub record Stands (files : List Named) (m : MarkLine) : Type 0 where
  pub file : m.at.file < length files
  pub offset : m.at.offset ≤ length (get_or (map text_of files) m.at.file [])

-- each of the marks does
abbrev pub AllStand : List Named → List MarkLine → Type 0
AllStand files marks = All (Stands files) marks

-- those of a verdict
abbrev pub StandsIn : List Named → Verdict → Type 0
StandsIn files Faulty = Unit {0}
StandsIn files Blocked = Unit {0}
StandsIn files (Refused marks) = AllStand files marks
StandsIn files Accepted = Unit {0}

-- a verdict for each package, whose marks stand in the package's own files
pub record AreVerdictsIn (tree : List PackageTexts) (verdicts : List Verdict) : Type 0 where
  pub size : length verdicts ≡ length tree
  pub stand : (p : ℕ) (pack : PackageTexts) (v : Verdict) → slice_get tree p ≡ Some pack → slice_get verdicts p ≡ Some v → StandsIn pack.files v

-- for each package diagnostics that stand in the package's own files, with fixes that can be made there, each of an analyzer
pub record AreFoundIn (tree : List PackageTexts) (found : List (List Diagnostic)) : Type 0 where
  pub size : length found ≡ length tree
  pub stand : (p : ℕ) (pack : PackageTexts) (ds : List Diagnostic) → slice_get tree p ≡ Some pack → slice_get found p ≡ Some ds → All (IsFoundIn pack.files) ds

-- ---- the parts of that, by the size of the file

-- no edit after this one and before `end` overlaps it
abbrev pub IsFree : List Edit → ℕ → ℕ → Type 0
IsFree edits at «end» = (j : ℕ) (x y : Edit) → at < j → j < «end» → slice_get edits at ≡ Some x → slice_get edits j ≡ Some y → ¬ (Overlap x y)

-- nor any after one of the first so many
abbrev pub AreFree : List Edit → ℕ → Type 0
AreFree edits done = (i : ℕ) → i < done → IsFree edits i (length edits)

pub record LiesWithin (size : ℕ) (edit : Edit) : Type 0 where
  pub rises : edit.start ≤ edit.end
  pub within : edit.end ≤ size

abbrev pub LieWithin : ℕ → List Edit → Type 0
LieWithin size edits = All (LiesWithin size) edits

pub record IsFixWithin (file size : ℕ) (fix : Fix) : Type 0 where
  pub file_is : fix.file ≡ file
  pub lie : LieWithin size fix.edits
  pub apart : AreFree fix.edits (length fix.edits)

abbrev pub CanBeMadeWithin : ℕ → ℕ → Option Fix → Type 0
CanBeMadeWithin file size None = Unit {0}
CanBeMadeWithin file size (Some fix) = IsFixWithin file size fix

pub record IsPlaced (files : List Named) (place : Place) : Type 0 where
  pub file : place.file < length files
  pub offset : place.offset ≤ length (get_or (map text_of files) place.file [])

pub record IsFoundWithin (files : List Named) (a : ℕ) (d : Diagnostic) : Type 0 where
  pub same : d.analyzer ≡ a
  pub number : IsAnalyzer d.analyzer
  pub placed : IsPlaced files d.place
  pub made : CanBeMadeWithin d.place.file (length (get_or (map text_of files) d.place.file [])) d.fix
