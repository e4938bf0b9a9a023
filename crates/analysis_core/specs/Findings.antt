-- The findings text: how diagnostics are spelled, apart from writer and reader, and what the parts of the reader answer.
use Rattle.std.specs.Prelude.{◌≡◌, ℕ, ◌<◌, ◌-◌, ◌^◌, List, ◌++◌, Option, Some, None, ◌==◌, option_map, if◌then◌else◌}
use Rattle.gv_base.specs.declared.place.Place.{Place}
use Rattle.gv_bytes.specs.Spelling.{natural, text, items, IsText, AreItems}
use Rattle.gv_bytes.specs.Reading.{◌>>=◌, natural_at, text_at, items_at}
use Rattle.fix_apply.specs.declared.edits.Edit.{Edit}
use Rattle.fix_apply.specs.declared.edits.Fix.{Fix}
use Rattle.fact_codec.specs.Texts.{Reader, seq_at, via_at, whole_at}
use Rattle.analysis_core.specs.declared.diagnostic.Diagnostic.{Diagnostic}

-- An edit: its start, its end and its text.
abbrev pub edit_text : Edit → List ℕ
edit_text e = natural e.start ++ (natural e.end ++ text e.text)

abbrev pub edits_text : List Edit → List ℕ
edits_text edits = items edit_text edits

-- nothing as 0, and something as 1 and its text
abbrev pub optional_text : {A : Type 0} → (A → List ℕ) → Option A → List ℕ
optional_text item None = natural 0
optional_text item (Some x) = natural 1 ++ item x

-- The edits of a fix; its file is that of its diagnostic.
abbrev pub edits_of : Option Fix → Option (List Edit)
edits_of fix = option_map (λ f. f.edits) fix

abbrev pub fix_text : Option Fix → List ℕ
fix_text fix = optional_text edits_text (edits_of fix)

-- A diagnostic: its file, its offset, its end, its analyzer's number, its text and its fix.
abbrev pub diagnostic_text : Diagnostic → List ℕ
diagnostic_text d = natural d.place.file ++ (natural d.place.offset ++ (natural d.end ++ (natural d.analyzer ++ (text d.text ++ fix_text d.fix))))

-- ---- which values have a text

abbrev pub IsOffset : ℕ → Type 0
IsOffset n = n < 2 ^ 32

abbrev pub IsEdit : Edit → Type 0
IsEdit e = IsOffset e.start × (IsOffset e.end × IsText e.text)

abbrev pub IsOptional : {A : Type 0} → (A → Type 0) → Option A → Type 0
IsOptional P None = Unit {0}
IsOptional P (Some x) = P x

abbrev pub IsFix : Option Fix → Type 0
IsFix fix = IsOptional (AreItems IsEdit) (edits_of fix)

-- the fix lies in this file
abbrev pub LiesInFile : ℕ → Option Fix → Type 0
LiesInFile file None = Unit {0}
LiesInFile file (Some fix) = fix.file ≡ file

-- the fix lies in the file of its diagnostic
abbrev pub IsOwn : Diagnostic → Type 0
IsOwn d = LiesInFile d.place.file d.fix

-- each number is of its size, and the fix lies in the file of its diagnostic
abbrev pub IsDiagnostic : Diagnostic → Type 0
IsDiagnostic d = (IsOffset d.place.file × (IsOffset d.place.offset × (IsOffset d.end × ((d.analyzer < 256) × (IsText d.text × IsFix d.fix))))) × IsOwn d

-- The bytes are the spelling of the diagnostics: their count, and each in turn.
pub record AreFindings (ds : List Diagnostic) (bytes : List ℕ) : Type 0 where
  pub value : AreItems IsDiagnostic ds
  pub whole : bytes ≡ items diagnostic_text ds

-- ---- reading from left to right

abbrev pub offset_at : Reader ℕ
offset_at = natural_at (2 ^ 32 - 1)

abbrev pub edit_out : ℕ × (ℕ × List ℕ) → Edit
edit_out x = record { start = x.0; end = x.1.0; text = x.1.1 }

unfoldable pub edit_at : Reader Edit
edit_at bytes = via_at edit_out (seq_at offset_at (seq_at offset_at text_at)) bytes

-- nothing behind a 0, and something behind a 1
abbrev pub optional_at : {A : Type 0} → Reader A → Reader (Option A)
optional_at at bytes = do
  n ← natural_at 1 bytes
  if n.0 == 0 then Some (None, n.1) else via_at Some at n.1

unfoldable pub edits_at : Reader (Option (List Edit))
edits_at bytes = optional_at (items_at edit_at) bytes

-- a fix of these edits in this file
abbrev pub fix_in : ℕ → Option (List Edit) → Option Fix
fix_in file edits = option_map (λ es. record { file = file; edits = es }) edits

abbrev pub diagnostic_out : ℕ × (ℕ × (ℕ × (ℕ × (List ℕ × Option (List Edit))))) → Diagnostic
diagnostic_out x = record {
  place = record { file = x.0; offset = x.1.0 };
  end = x.1.1.0;
  analyzer = x.1.1.1.0;
  text = x.1.1.1.1.0;
  fix = fix_in x.0 x.1.1.1.1.1;
}

unfoldable pub diagnostic_at : Reader Diagnostic
diagnostic_at bytes = via_at diagnostic_out (seq_at offset_at (seq_at offset_at (seq_at offset_at (seq_at (natural_at 255) (seq_at text_at edits_at))))) bytes

unfoldable pub findings_in : List ℕ → Option (List Diagnostic)
findings_in bytes = whole_at (items_at diagnostic_at) bytes
