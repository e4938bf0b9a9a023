-- The order of diagnostics.
use Rattle.std.specs.Prelude.{◌≡◌, ℕ, List, [], Option, Some, None, Contains}
use Rattle.std.specs.List.Sorted.{IsStrictlySortedBy}
use Rattle.std.specs.Ordering.{nat_cmp, on, then_cmp}
use Rattle.std.specs.declared.cmp.Ordering.{Ordering}
use Rattle.std.specs.Cmp.Lexicographic.{slice_cmp}
use Rattle.fix_apply.specs.declared.edits.Edit.{Edit}
use Rattle.fix_apply.specs.declared.edits.Fix.{Fix}
use Rattle.analysis_core.specs.declared.diagnostic.Diagnostic.{Diagnostic}
use Rattle.analysis_core.specs.declared.reply.FoundLine.{FoundLine}

abbrev pub edit_order : Edit → Edit → Ordering
edit_order =
    then_cmp (on (λ e. e.start) nat_cmp)
    (then_cmp (on (λ e. e.end) nat_cmp)
    (on (λ e. e.text) (slice_cmp nat_cmp)))

-- 1 where there is a fix
abbrev pub fix_count : Option Fix → ℕ
fix_count None = 0
fix_count (Some fix) = 1

abbrev pub fix_file : Option Fix → ℕ
fix_file None = 0
fix_file (Some fix) = fix.file

abbrev pub fix_edits : Option Fix → List Edit
fix_edits None = []
fix_edits (Some fix) = fix.edits

-- none first, then by the fix's numbers and bytes
abbrev pub fix_order : Option Fix → Option Fix → Ordering
fix_order =
    then_cmp (on fix_count nat_cmp)
    (then_cmp (on fix_file nat_cmp)
    (on fix_edits (slice_cmp edit_order)))

-- By file, offset, analyzer, text and end, and then by the fix. Files are numbered by path.
abbrev pub order : Diagnostic → Diagnostic → Ordering
order =
    then_cmp (on (λ d. d.place.file) nat_cmp)
    (then_cmp (on (λ d. d.place.offset) nat_cmp)
    (then_cmp (on (λ d. d.analyzer) nat_cmp)
    (then_cmp (on (λ d. d.text) (slice_cmp nat_cmp))
    (then_cmp (on (λ d. d.end) nat_cmp)
    (on (λ d. d.fix) fix_order)))))

-- by package, and then as diagnostics
abbrev pub found_order : FoundLine → FoundLine → Ordering
found_order = then_cmp (on (λ l. l.package) (slice_cmp nat_cmp)) (on (λ l. l.diagnostic) order)

-- Exactly these, in order, each once.
pub record AreInOrder {A : Type 0} (by : A → A → Ordering) (IsFound : A → Type 0) (found : List A) : Type 0 where
  pub each : (d : A) → Contains found d → IsFound d
  pub every : (d : A) → IsFound d → Contains found d
  pub rises : IsStrictlySortedBy by found
