-- The reader of findings: what is read is spelled so, and what is spelled so is read.
use Rattle.std.proofs.Common.{◌≡◌, ℕ, zero, suc, ◌-◌, ◌^◌, ◌<◌, ◌≤◌, true, false, cond, eqb, List, ◌++◌, length, Option, Some, None, option_map, refl, sym, ap, subst, ◌∙◌, arith, inl, inr, append_assoc}
use Rattle.std.proofs.lemmas.Bool.{eqb-true}
use Rattle.gv_base.specs.declared.place.Place.{Place}
use Rattle.gv_bytes.specs.Spelling.{natural, text, items, IsText, AreItems}
use Rattle.gv_bytes.specs.Reading.{◌>>=◌, Reads, natural_at, text_at, items_at}
use Rattle.gv_bytes.proofs.Options.{bind_some, chosen, some_is}
use Rattle.gv_bytes.proofs.Numbers.{naturals, texts}
use Rattle.gv_bytes.proofs.Items.{lists}
use Rattle.fix_apply.specs.declared.edits.Edit.{Edit}
use Rattle.fix_apply.specs.declared.edits.Fix.{Fix}
use Rattle.fact_codec.specs.Texts.{Reader, seq_at, via_at, whole_at}
use Rattle.fact_codec.proofs.Readers.{seq, via, again_as, whole_take, whole_again}
use Rattle.analysis_core.specs.declared.diagnostic.Diagnostic.{Diagnostic}
use Rattle.analysis_core.specs.Findings.{edit_text, edits_text, optional_text, edits_of, fix_text, diagnostic_text, IsOffset, IsEdit, IsOptional, IsFix, LiesInFile, IsOwn, IsDiagnostic, AreFindings, offset_at, edit_out, edit_at, optional_at, edits_at, fix_in, diagnostic_out, diagnostic_at, findings_in}

-- of another value, of those that pass
via_if : {A B : Type 0} {P : A → Type 0} {Q : B → Type 0} {s : A → List ℕ} {a : Reader A} (to : A → B) (from : B → A) → ((x : A) → from (to x) ≡ x) → ((x : A) → Q (to x)) → ((y : B) → Q y → to (from y) ≡ y) → Reads P s a
    → Reads (λ y. P (from y) × Q y) (λ y. s (from y)) (via_at to a)
via_if {A} {B} {P} {Q} {s} {a} to from back good forth r = record {
  takes = λ bytes y e.
      let m = bind_some (a bytes) (λ x. Some (to x.0, x.1)) y e in
      let u = r.takes bytes m.0 m.1 in
      let same = back m.0.0 in
      subst (λ (z : B × List ℕ). (bytes ≡ s (from z.0) ++ z.1) × (P (from z.0) × Q z.0)) (some_is (to m.0.0, m.0.1) y m.2)
      (u.0 ∙ ap (λ (x : A). s x ++ m.0.1) (sym same), (subst P (sym same) u.1, good m.0.0));
  again = λ y rest fits. ap (λ (o : Option (A × List ℕ)). o >>= λ x. Some (to x.0, x.1)) (r.again (from y) rest fits.0) ∙ ap (λ (z : B). Some (z, rest)) (forth y fits.1);
}

bits : Reads (λ n. n ≤ 1) natural (natural_at 1)
bits = naturals 1 (omega arith)

offsets : Reads IsOffset natural offset_at
offsets = again_as (λ n h. omega (arith, h)) (λ n h. omega (arith, h)) (naturals (2 ^ 32 - 1) (omega arith))

bytes_of : Reads (λ n. n < 256) natural (natural_at 255)
bytes_of = again_as (λ n h. omega (arith, h)) (λ n h. omega (arith, h)) (naturals 255 (omega arith))

-- nothing behind a 0, and something behind a 1
optional_take : {A : Type 0} {P : A → Type 0} {s : A → List ℕ} {a : Reader A} → Reads P s a → (bytes : List ℕ) (x : Option A × List ℕ) → optional_at a bytes ≡ Some x
    → (bytes ≡ optional_text s x.0 ++ x.1) × IsOptional P x.0
optional_take {A} {P} {s} {a} r bytes x e =
    let m = bind_some (natural_at 1 bytes) (λ n. cond (eqb n.0 0) (Some (None, n.1)) (via_at Some a n.1)) x e in
    let t = bits.takes bytes m.0 m.1 in
    elim (chosen (eqb m.0.0 0) (Some (None, m.0.1)) (via_at Some a m.0.1) (Some x) m.2) [
      | inl p ↦
          let zero_bit : m.0.0 ≡ 0 = eqb-true m.0.0 0 p.0 in
          subst (λ (y : Option A × List ℕ). (bytes ≡ optional_text s y.0 ++ y.1) × IsOptional P y.0) (some_is (None, m.0.1) x p.1)
          (t.0 ∙ ap (λ (n : ℕ). natural n ++ m.0.1) zero_bit, tt)
      | inr p ↦
          let one_bit : m.0.0 ≡ 1 = one m.0.0 t.1 p.0 in
          let n = bind_some (a m.0.1) (λ y. Some (Some y.0, y.1)) x p.1 in
          let u = r.takes m.0.1 n.0 n.1 in
          subst (λ (y : Option A × List ℕ). (bytes ≡ optional_text s y.0 ++ y.1) × IsOptional P y.0) (some_is (Some n.0.0, n.0.1) x n.2)
          (t.0 ∙ (ap (λ (n : ℕ). natural n ++ m.0.1) one_bit ∙ (ap (λ (l : List ℕ). natural 1 ++ l) u.0 ∙ sym (append_assoc (natural 1) (s n.0.0) n.0.1))), u.1)
    ]
  where
    one : (n : ℕ) → n ≤ 1 → eqb n 0 ≡ false → n ≡ 1
    one zero le e = absurd cc
    one (suc zero) le e = refl
    one (suc (suc n)) le e = absurd (omega (arith, le))

optional_again : {A : Type 0} {P : A → Type 0} {s : A → List ℕ} {a : Reader A} → Reads P s a → (o : Option A) (rest : List ℕ) → IsOptional P o
    → optional_at a (optional_text s o ++ rest) ≡ Some (o, rest)
optional_again {A} {P} {s} {a} r None rest fits = rw (bits.again 0 rest (omega arith)) refl
optional_again {A} {P} {s} {a} r (Some x) rest fits =
    ap (optional_at a) (append_assoc (natural 1) (s x) rest)
    ∙ rw (bits.again 1 (s x ++ rest) (omega arith)) (rw (r.again x rest fits) refl)

optional : {A : Type 0} {P : A → Type 0} {s : A → List ℕ} {a : Reader A} → Reads P s a → Reads (IsOptional P) (optional_text s) (optional_at a)
optional r = record { takes = optional_take r; again = optional_again r }

edits : Reads IsEdit edit_text edit_at
unfolding edit_at
edits = via edit_out (λ e. (e.start, (e.end, e.text))) (λ x h. refl) (λ e. refl) (seq offsets (seq offsets texts))

edit_lists : Reads (IsOptional (AreItems IsEdit)) (optional_text edits_text) edits_at
unfolding edits_at
edit_lists = optional (lists edits)

-- the parts of a diagnostic, in their order
abbrev Parts : Type 0
Parts = ℕ × (ℕ × (ℕ × (ℕ × (List ℕ × Option (List Edit)))))

abbrev parts_of : Diagnostic → Parts
parts_of d = (d.place.file, (d.place.offset, (d.end, (d.analyzer, (d.text, edits_of d.fix)))))

edits_kept : (file : ℕ) (edits : Option (List Edit)) → edits_of (fix_in file edits) ≡ edits
edits_kept file None = refl
edits_kept file (Some es) = refl

parts_kept : (x : Parts) → parts_of (diagnostic_out x) ≡ x
parts_kept x = ap (λ (e : Option (List Edit)). (x.0, (x.1.0, (x.1.1.0, (x.1.1.1.0, (x.1.1.1.1.0, e)))))) (edits_kept x.0 x.1.1.1.1.1)

own_out : (file : ℕ) (edits : Option (List Edit)) → LiesInFile file (fix_in file edits)
own_out file None = tt
own_out file (Some es) = refl

fix_kept : (file : ℕ) (fix : Option Fix) → LiesInFile file fix → fix_in file (edits_of fix) ≡ fix
fix_kept file None h = refl
fix_kept file (Some f) h = ap (λ (n : ℕ). Some (record { file = n; edits = f.edits })) (sym h)

whole_kept : (d : Diagnostic) → IsOwn d → diagnostic_out (parts_of d) ≡ d
whole_kept d own = ap (λ (f : Option Fix). record { place = d.place; end = d.end; analyzer = d.analyzer; text = d.text; fix = f }) (fix_kept d.place.file d.fix own)

diagnostics : Reads IsDiagnostic diagnostic_text diagnostic_at
unfolding diagnostic_at
diagnostics = via_if diagnostic_out parts_of parts_kept (λ x. own_out x.0 x.1.1.1.1.1) whole_kept
    (seq offsets (seq offsets (seq offsets (seq bytes_of (seq texts edit_lists)))))

pub findings_take : (bytes : List ℕ) (ds : List Diagnostic) → findings_in bytes ≡ Some ds → AreFindings ds bytes
unfolding findings_in
findings_take bytes ds e = let t = whole_take (lists diagnostics) bytes ds e in record { value = t.0; whole = t.1 }

pub spelled_is_read : (bytes : List ℕ) (ds : List Diagnostic) → AreFindings ds bytes → findings_in bytes ≡ Some ds
unfolding findings_in
spelled_is_read bytes ds h = ap (whole_at (items_at diagnostic_at)) h.whole ∙ whole_again (lists diagnostics) ds h.value
