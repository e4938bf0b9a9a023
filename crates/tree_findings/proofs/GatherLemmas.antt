-- Rows of edits, one edit and one fix more at a time.
use Rattle.std.proofs.Common.{◌≡◌, ℕ, zero, suc, ◌+◌, ◌<◌, inl, inr, Bool, true, false, cond, Some, List, [], ◌∷◌, ◌++◌, length, map, take, get_or, slice_set, refl, sym, ap, ◌∙◌, subst, arith, append_assoc, get_or-set_same, get_or-set_other}
use Rattle.std.specs.Prelude.{◌==◌}
use Rattle.std.specs.Global.{Vec}
use Rattle.std.proofs.lemmas.Bool.{eq-eqb, eqb-true, cases_eq}
use Rattle.std.proofs.lemmas.List.{append-nil, take_more, length-map, length-set, length-take-le}
use Rattle.std.proofs.lemmas.Option.{slice_get-get_or, get_or_from_slice_get}
use Rattle.import_graph.proofs.ListLemmas.{get-map}
use Rattle.fix_apply.specs.declared.edits.Edit.{Edit}
use Rattle.fix_apply.specs.declared.edits.Fix.{Fix}
use Rattle.fix_apply.specs.declared.choices.Choice.{Choice}
use Rattle.tree_findings.specs.Mending.{edits_by, edits_in, applied_edits, row_at, Adds, AreGathered}

abbrev rows_of : List (Vec Edit) → List (List Edit)
rows_of rows = map (λ row. row.items) rows

pub row-at-is : (rows : List (Vec Edit)) (at : ℕ) (v : Vec Edit) → at < length rows → v ≡ get_or rows at v → row_at rows at ≡ v.items
row-at-is rows at v l e =
    get_or_from_slice_get (map (λ (row : Vec Edit). row.items) rows) at v.items [] (get-map (λ (row : Vec Edit). row.items) rows at v (slice_get-get_or rows at v l ∙ ap Some (sym e)))

-- nothing is added
pub adds-none : (file : ℕ) (edits : List Edit) (rows : List (Vec Edit)) → Adds file (take 0 edits) rows rows
adds-none file edits rows = record { size = refl; here = sym (append-nil (row_at rows file)); elsewhere = λ n other. refl }

-- one edit more
pub adds-more : (file : ℕ) (edits : List Edit) (k : ℕ) (e : Edit) (start old new : List (Vec Edit)) → file < length start → k < length edits → e ≡ get_or edits k e → Adds file (take k edits) start old
    → rows_of new ≡ slice_set (rows_of old) file (row_at old file ++ e ∷ []) → Adds file (take (k + 1) edits) start new
adds-more file edits k e start old new within lt is so_far set =
    let row : List Edit = row_at old file ++ e ∷ [] in
    let a : length (rows_of new) ≡ length (rows_of old) = ap length set ∙ length-set (rows_of old) file row in
    let b : length (rows_of new) ≡ length new = length-map new (λ r. r.items) in
    let d : length (rows_of old) ≡ length old = length-map old (λ r. r.items) in
    let s : length old ≡ length start = so_far.size in
    let more : take (k + 1) edits ≡ take k edits ++ e ∷ [] = take_more edits k e lt ∙ ap (λ x. take k edits ++ x ∷ []) (sym is) in
    record {
      size = sym b ∙ (a ∙ (d ∙ s));
      here = ap (λ t. get_or t file []) set ∙ (get_or-set_same (rows_of old) file row [] (omega (arith, within, s, d))
          ∙ (ap (λ t. t ++ e ∷ []) so_far.here ∙ (append_assoc (row_at start file) (take k edits) (e ∷ []) ∙ ap (λ t. row_at start file ++ t) (sym more))));
      elsewhere = λ n other. ap (λ t. get_or t n []) set ∙ (get_or-set_other (rows_of old) file n row [] other ∙ so_far.elsewhere n other);
    }

-- ---- one fix

none-in : (n : ℕ) (fix : Fix) → (fix.file ≡ n → ⊥) → edits_in n fix ≡ []
none-in n fix other = go (fix.file == n) refl
  where
    go : (b : Bool) → (fix.file == n) ≡ b → cond b fix.edits [] ≡ []
    go true e = absurd (other (eqb-true fix.file n e))
    go false e = refl

some-in : (n : ℕ) (fix : Fix) → fix.file ≡ n → edits_in n fix ≡ fix.edits
some-in n fix same = ap (λ b. cond b fix.edits []) (eq-eqb fix.file n same)

-- a fix of another file adds nothing
pub other-adds : (n : ℕ) (fix : Fix) (rows : List (Vec Edit)) → (fix.file ≡ n → ⊥) → row_at rows n ≡ row_at rows n ++ edits_in n fix
other-adds n fix rows other = sym (ap (λ t. row_at rows n ++ t) (none-in n fix other) ∙ append-nil (row_at rows n))

-- a fix adds its edits to the row of its file
pub fix-adds : (n : ℕ) (fix : Fix) (old new : List (Vec Edit)) → Adds fix.file fix.edits old new → row_at new n ≡ row_at old n ++ edits_in n fix
fix-adds n fix old new adds = elim (cases_eq fix.file n) [
  | inl same ↦ subst (λ m. row_at new m ≡ row_at old m ++ edits_in n fix) same (adds.here ∙ ap (λ t. row_at old fix.file ++ t) (sym (some-in n fix same)))
  | inr other ↦ adds.elsewhere n (λ is. other (sym is)) ∙ other-adds n fix old other
]

-- ---- all fixes

snoc : (n : ℕ) (fixes : List Fix) (choices : List Choice) (f : Fix) (c : Choice) → length fixes ≡ length choices → applied_edits n (fixes ++ f ∷ []) (choices ++ c ∷ []) ≡ applied_edits n fixes choices ++ edits_by n f c
snoc n [] [] f c e = append-nil (edits_by n f c)
snoc n [] (d ∷ cs) f c e = absurd (omega (arith, e))
snoc n (g ∷ fs) [] f c e = absurd (omega (arith, e))
snoc n (g ∷ fs) (d ∷ cs) f c e =
    ap (λ t. edits_by n g d ++ t) (snoc n fs cs f c (omega (arith, e))) ∙ sym (append_assoc (edits_by n g d) (applied_edits n fs cs) (edits_by n f c))

applied-more : (n : ℕ) (fixes : List Fix) (choices : List Choice) (k : ℕ) (f : Fix) (c : Choice) → k < length fixes → length choices ≡ length fixes → f ≡ get_or fixes k f → c ≡ get_or choices k c
    → applied_edits n (take (k + 1) fixes) (take (k + 1) choices) ≡ applied_edits n (take k fixes) (take k choices) ++ edits_by n f c
applied-more n fixes choices k f c lt size f_is c_is =
    let a : take (k + 1) fixes ≡ take k fixes ++ f ∷ [] = take_more fixes k f lt ∙ ap (λ x. take k fixes ++ x ∷ []) (sym f_is) in
    let b : take (k + 1) choices ≡ take k choices ++ c ∷ [] = take_more choices k c (omega (arith, lt, size)) ∙ ap (λ x. take k choices ++ x ∷ []) (sym c_is) in
    let l : length (take k fixes) ≡ k = length-take-le k fixes (omega (arith, lt)) in
    let m : length (take k choices) ≡ k = length-take-le k choices (omega (arith, lt, size)) in
    ap (λ t. applied_edits n t (take (k + 1) choices)) a ∙ (ap (applied_edits n (take k fixes ++ f ∷ [])) b ∙ snoc n (take k fixes) (take k choices) f c (l ∙ sym m))

pub gathered-none : (count : ℕ) (fixes : List Fix) (choices : List Choice) (rows : List (Vec Edit)) → length rows ≡ count → ((n : ℕ) → row_at rows n ≡ []) → AreGathered count (take 0 fixes) (take 0 choices) rows
gathered-none count fixes choices rows size empty = record { size = size; each = λ n lt. empty n }

-- one fix more
pub gathered-more : (count : ℕ) (fixes : List Fix) (choices : List Choice) (k : ℕ) (f : Fix) (c : Choice) (old new : List (Vec Edit)) → k < length fixes → length choices ≡ length fixes → f ≡ get_or fixes k f → c ≡ get_or choices k c
    → AreGathered count (take k fixes) (take k choices) old → length new ≡ length old → ((n : ℕ) → n < length old → row_at new n ≡ row_at old n ++ edits_by n f c) → AreGathered count (take (k + 1) fixes) (take (k + 1) choices) new
gathered-more count fixes choices k f c old new lt size f_is c_is so_far same each = record {
  size = same ∙ so_far.size;
  each = λ n low. each n (let s : length old ≡ count = so_far.size in omega (arith, low, s)) ∙ (ap (λ t. t ++ edits_by n f c) (so_far.each n low) ∙ sym (applied-more n fixes choices k f c lt size f_is c_is));
}
