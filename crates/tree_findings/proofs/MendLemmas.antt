-- The edits of applied fixes can be made in their files; what becomes of fixes is one, and can be printed.
use Rattle.std.proofs.Common.{◌≡◌, ℕ, zero, suc, ◌+◌, ◌-◌, ◌<◌, ◌≤◌, ◌⊎◌, inl, inr, Bool, true, false, cond, Option, Some, None, List, [], ◌∷◌, ◌++◌, length, map, flat_map, take, get_or, slice_get, All, refl, sym, ap, ◌∙◌, subst, arith, append_assoc, get_or-append-add}
use Rattle.std.specs.Prelude.{◌==◌, AllPairs}
use Rattle.std.specs.Global.{Vec}
use Rattle.std.specs.List.{Contains}
use Rattle.std.proofs.lemmas.Bool.{eqb-true, cases_lt}
use Rattle.std.proofs.lemmas.List.{append-nil, get_or_append_left, take_more, length-append, length-take-le}
use Rattle.std.proofs.lemmas.List.Elements.{All-append, All-cons, Contains-append_cases, Contains-get_or}
use Rattle.std.proofs.lemmas.Option.{get_or_from_slice_get, slice_get_within}
use Rattle.gv_base.specs.Files.{Entry}
use Rattle.fix_apply.specs.declared.edits.Edit.{Edit}
use Rattle.fix_apply.specs.declared.edits.Fix.{Fix}
use Rattle.fix_apply.specs.declared.choices.Choice.{Choice}
use Rattle.fix_apply.specs.declared.choices.Choice.TheVariants.{Applied, Overlaps}
use Rattle.fix_apply.specs.Choices.{fix_at, choice_at, Clash, Blocks, IsRight, Chosen}
use Rattle.fix_apply.specs.Edits.{Overlap}
use Rattle.fix_apply.specs.Rewriting.{LieIn, AreApart}
use Rattle.fix_apply.proofs.OneChoice.{one_choice}
use Rattle.analysis_core.specs.declared.reply.FoundLine.{FoundLine}
use Rattle.analysis_core.specs.declared.reply.ChangedFile.{ChangedFile}
use Rattle.analysis_core.specs.declared.reply.Reply.{Reply}
use Rattle.analysis_core.specs.Replies.{file_numbered, fix_spots, spot_if}
use Rattle.report_text.specs.ReplyStanding.{Earlier, FixesStand}
use Rattle.tree_findings.specs.Mending.{fix_list, fixes_of, Fits, FixFits, FoundFits, edits_by, applied_edits, changed_by, changes_from, changes, IsMended, row_at, edits_at, AreGathered}

-- ---- lists

no-item : {X : Type 0} (x : X) → Contains [] x → ⊥
no-item x h = let l = h.1 in omega (arith, l)

-- pairs of two lists one behind the other
pairs-append : {X : Type 0} (R : X → X → Type 0) (xs ys : List X) → AllPairs R xs → AllPairs R ys → ((x y : X) → Contains xs x → Contains ys y → R x y) → AllPairs R (xs ++ ys)
pairs-append {X} R xs ys left right across i j d less within = elim (cases_lt i (length xs)) [
  | inl low ↦ elim (cases_lt j (length xs)) [
    | inl below ↦ both (sym (get_or_append_left xs ys d i low)) (sym (get_or_append_left xs ys d j below)) (left i j d less below)
    | inr past ↦ both (sym (get_or_append_left xs ys d i low)) (behind j past) (across (get_or xs i d) (get_or ys (j - length xs) d) (Contains-get_or xs i d low) (Contains-get_or ys (j - length xs) d (rest j past within)))
  ]
  | inr high ↦ both (behind i high) (behind j (omega (arith, less, high))) (right (i - length xs) (j - length xs) d (omega (arith, less, high)) (rest j (omega (arith, less, high)) within))
]
  where
    both : {a b x y : X} → x ≡ a → y ≡ b → R x y → R a b
    both {b = b} {x = x} p q r = subst (λ z. R z b) p (subst (R x) q r)

    behind : (k : ℕ) → length xs ≤ k → get_or ys (k - length xs) d ≡ get_or (xs ++ ys) k d
    behind k past = sym (get_or-append-add xs ys (k - length xs) d) ∙ ap (λ m. get_or (xs ++ ys) m d) (let e : length xs + (k - length xs) ≡ k = omega (arith, past) in e)

    rest : (k : ℕ) → length xs ≤ k → k < length (xs ++ ys) → k - length xs < length ys
    rest k past lt = let l = length-append xs ys in omega (arith, past, lt, l)

-- ---- applied fixes don't clash

abbrev AreClear : List Fix → List Choice → Type 0
AreClear fixes choices = (i j : ℕ) → i < j → j < length fixes → choice_at choices i ≡ Applied → choice_at choices j ≡ Applied → Clash (fix_at fixes i) (fix_at fixes j) → ⊥

clear-of : (fixes : List Fix) (choices : List Choice) → Chosen fixes choices → AreClear fixes choices
clear-of fixes choices chosen i j less within first second clash =
    let right : IsRight fixes choices j Applied = subst (IsRight fixes choices j) second (chosen.each j within) in
    right i (record { before = less; applied = first; clash = clash })

clear-tail : (f : Fix) (fs : List Fix) (c : Choice) (cs : List Choice) → AreClear (f ∷ fs) (c ∷ cs) → AreClear fs cs
clear-tail f fs c cs h i j less within first second clash = h (suc i) (suc j) (omega (arith, less)) (omega (arith, within)) first second clash

-- the edit is of an applied fix in this file
record IsFrom (n : ℕ) (fixes : List Fix) (choices : List Choice) (e : Edit) : Type 0 where
  j : ℕ
  within : j < length fixes
  applied : choice_at choices j ≡ Applied
  file : (fix_at fixes j).file ≡ n
  has : Contains (fix_at fixes j).edits e

-- what is known of a fix that gives edits of a file
record Gives (n : ℕ) (f : Fix) (c : Choice) (e : Edit) : Type 0 where
  applied : c ≡ Applied
  file : f.file ≡ n
  has : Contains f.edits e

gives : (n : ℕ) (f : Fix) (c : Choice) (e : Edit) → Contains (edits_by n f c) e → Gives n f c e
gives n f (Overlaps first) e h = absurd (no-item e h)
gives n f Applied e h = go (f.file == n) refl h
  where
    go : (b : Bool) → (f.file == n) ≡ b → Contains (cond b f.edits []) e → Gives n f Applied e
    go true same has = record { applied = refl; file = eqb-true f.file n same; has = has }
    go false other has = absurd (no-item e has)

from-of : (n : ℕ) (fixes : List Fix) (choices : List Choice) (e : Edit) → Contains (applied_edits n fixes choices) e → IsFrom n fixes choices e
from-of n [] choices e h = absurd (no-item e h)
from-of n (f ∷ fs) [] e h = absurd (no-item e h)
from-of n (f ∷ fs) (c ∷ cs) e h = elim (Contains-append_cases (edits_by n f c) (applied_edits n fs cs) e h) [
  | inl first ↦ (let g = gives n f c e first in record { j = 0; within = omega arith; applied = g.applied; file = g.file; has = g.has })
  | inr later ↦ (let r = from-of n fs cs e later in record { j = suc r.j; within = (let l = r.within in omega (arith, l)); applied = r.applied; file = r.file; has = r.has })
]

-- ---- edits of applied fixes fit

module _ (n : ℕ) (bytes : List ℕ) where
  -- the edits of each fix of this file fit
  abbrev EachFits : List Fix → Type 0
  EachFits fixes = (j : ℕ) → j < length fixes → (fix_at fixes j).file ≡ n → Fits bytes (fix_at fixes j).edits

  none-fits : Fits bytes []
  none-fits = record { lie = λ k d lt. absurd (omega (arith, lt)); apart = λ i j d less lt. absurd (omega (arith, lt)) }

  by-fits : (f : Fix) (c : Choice) → (f.file ≡ n → Fits bytes f.edits) → Fits bytes (edits_by n f c)
  by-fits f (Overlaps first) h = none-fits
  by-fits f Applied h = go (f.file == n) refl
    where
      go : (b : Bool) → (f.file == n) ≡ b → Fits bytes (cond b f.edits [])
      go true same = h (eqb-true f.file n same)
      go false other = none-fits

  both-fit : (xs ys : List Edit) → Fits bytes xs → Fits bytes ys → ((x y : Edit) → Contains xs x → Contains ys y → Overlap x y → ⊥) → Fits bytes (xs ++ ys)
  both-fit xs ys a b across = record {
    lie = All-append (λ e. (e.start ≤ e.end) × (e.end ≤ length bytes)) xs ys a.lie b.lie;
    apart = pairs-append (λ x y. Overlap x y → ⊥) xs ys a.apart b.apart across;
  }

  applied-fit : (fixes : List Fix) (choices : List Choice) → AreClear fixes choices → EachFits fixes → Fits bytes (applied_edits n fixes choices)
  applied-fit [] choices clear each = none-fits
  applied-fit (f ∷ fs) [] clear each = none-fits
  applied-fit (f ∷ fs) (c ∷ cs) clear each =
      both-fit (edits_by n f c) (applied_edits n fs cs) (by-fits f c (each 0 (omega arith)))
      (applied-fit fs cs (clear-tail f fs c cs clear) (λ j within. each (suc j) (omega (arith, within))))
      (λ x y left right overlap.
      let a = gives n f c x left in
      let b = from-of n fs cs y right in
      clear 0 (suc b.j) (omega arith) (let l = b.within in omega (arith, l)) a.applied b.applied (record { file = a.file ∙ sym b.file; left = x; right = y; of_a = a.has; of_b = b.has; overlap = overlap }))

-- ---- the fixes of diagnostics

list-fits : (tree : List Entry) (fix : Option Fix) → ((f : Fix) → fix ≡ Some f → FixFits tree f) → All (FixFits tree) (fix_list fix)
list-fits tree None h = λ k d lt. absurd (omega (arith, lt))
list-fits tree (Some f) h = All-cons (FixFits tree) f [] (h f refl) (λ k d lt. absurd (omega (arith, lt)))

fixes-fit : (tree : List Entry) (found : List FoundLine) → All (FoundFits tree) found → All (FixFits tree) (fixes_of found)
fixes-fit tree [] h = λ k d lt. absurd (omega (arith, lt))
fixes-fit tree (l ∷ ls) h =
    All-append (FixFits tree) (fix_list l.diagnostic.fix) (fixes_of ls) (list-fits tree l.diagnostic.fix (h 0 l (omega arith)))
    (fixes-fit tree ls (λ k d lt. h (suc k) d (omega (arith, lt))))

-- the edits of the applied fixes of a file can be made in it
pub applied-fits : (tree : List Entry) (found : List FoundLine) (choices : List Choice) (n : ℕ) → All (FoundFits tree) found → Chosen (fixes_of found) choices → Fits (file_numbered tree n).1 (applied_edits n (fixes_of found) choices)
applied-fits tree found choices n h chosen =
    let all = fixes-fit tree found h in
    applied-fit n (file_numbered tree n).1 (fixes_of found) choices (clear-of (fixes_of found) choices chosen)
    (λ j within same. subst (λ m. Fits (file_numbered tree m).1 (fix_at (fixes_of found) j).edits) same (all j (record { file = 0; edits = [] }) within))

-- those that are gathered by file
pub gathered-fit : (tree : List Entry) (found : List FoundLine) (choices : List Choice) (rows : List (Vec Edit)) (count : ℕ) → count ≡ length tree → All (FoundFits tree) found → Chosen (fixes_of found) choices → AreGathered count (fixes_of found) choices rows
    → (n : ℕ) → n < length tree → Fits (file_numbered tree n).1 (row_at rows n)
gathered-fit tree found choices rows count size h chosen are n lt =
    subst (Fits (file_numbered tree n).1) (sym (are.each n (omega (arith, lt, size)))) (applied-fits tree found choices n h chosen)

-- those of the file at hand
pub fit-here : (tree : List Entry) (rows : List (Vec Edit)) (n : ℕ) (path bytes : List ℕ) (row : List Edit) → slice_get tree n ≡ Some (path, bytes) → row ≡ row_at rows n
    → ((k : ℕ) → k < length tree → Fits (file_numbered tree k).1 (row_at rows k)) → Fits bytes row
fit-here tree rows n path bytes row at is fit =
    let lt : n < length tree = slice_get_within tree n (path, bytes) at in
    subst (Fits bytes) (sym is) (subst (λ (e : Entry). Fits e.1 (row_at rows n)) (get_or_from_slice_get tree n (path, bytes) ([], []) at) (fit n lt))

-- ---- changed files

from-same : (f g : ℕ → List Edit) (n : ℕ) (tree : List Entry) → ((k : ℕ) → n ≤ k → k < n + length tree → f k ≡ g k) → changes_from f n tree ≡ changes_from g n tree
from-same f g n [] h = refl
from-same f g n (e ∷ es) h =
    ap (λ t. changed_by e t ++ changes_from f (suc n) es) (h n (omega arith) (omega arith))
    ∙ ap (λ t. changed_by e (g n) ++ t) (from-same f g (suc n) es (λ k low lt. h k (omega (arith, low)) (omega (arith, lt))))

pub gathered-changes : (tree : List Entry) (fixes : List Fix) (choices : List Choice) (rows : List (Vec Edit)) (count : ℕ) → count ≡ length tree → AreGathered count fixes choices rows → changes_from (edits_at rows) 0 tree ≡ changes tree fixes choices
gathered-changes tree fixes choices rows count size are = from-same (edits_at rows) (λ n. applied_edits n fixes choices) 0 tree (λ k low lt. are.each k (omega (arith, lt, size)))

snoc : (f : ℕ → List Edit) (n : ℕ) (es : List Entry) (e : Entry) → changes_from f n (es ++ e ∷ []) ≡ changes_from f n es ++ changed_by e (f (n + length es))
snoc f n [] e = append-nil (changed_by e (f n)) ∙ ap (λ m. changed_by e (f m)) (let z : n ≡ n + 0 = omega arith in z)
snoc f n (x ∷ es) e =
    ap (λ t. changed_by x (f n) ++ t) (snoc f (suc n) es e ∙ ap (λ m. changes_from f (suc n) es ++ changed_by e (f m)) (let z : suc n + length es ≡ n + length (x ∷ es) = omega arith in z))
    ∙ sym (append_assoc (changed_by x (f n)) (changes_from f (suc n) es) (changed_by e (f (n + length (x ∷ es)))))

-- one file more
pub changes-more : (f : ℕ → List Edit) (tree : List Entry) (k : ℕ) (e : Entry) (old new : List ChangedFile) → slice_get tree k ≡ Some e → old ≡ changes_from f 0 (take k tree) → new ≡ old ++ changed_by e (f k) → new ≡ changes_from f 0 (take (k + 1) tree)
changes-more f tree k e old new at so_far grown =
    let lt : k < length tree = slice_get_within tree k e at in
    let a : take (k + 1) tree ≡ take k tree ++ e ∷ [] = take_more tree k e lt ∙ ap (λ x. take k tree ++ x ∷ []) (get_or_from_slice_get tree k e e at) in
    let l : k ≡ 0 + length (take k tree) = (let m = length-take-le k tree (omega (arith, lt)) in omega (arith, m)) in
    grown ∙ (ap (λ t. t ++ changed_by e (f k)) so_far
    ∙ (ap (λ m. changes_from f 0 (take k tree) ++ changed_by e (f m)) l
    ∙ (sym (snoc f 0 (take k tree) e) ∙ ap (changes_from f 0) (sym a))))

-- ---- what becomes of fixes

-- the fixes that were chosen from are those of the diagnostics
pub chosen-of : (fixes list lent : List Fix) (choices : List Choice) → list ≡ fixes → lent ≡ list → Chosen lent choices → Chosen fixes choices
chosen-of fixes list lent choices same is h = subst (λ fs. Chosen fs choices) (is ∙ same) h

pub gathered-of : (count : ℕ) (fixes list lent : List Fix) (choices shown : List Choice) (rows : List (Vec Edit)) → list ≡ fixes → lent ≡ list → shown ≡ choices → AreGathered count lent shown rows → AreGathered count fixes choices rows
gathered-of count fixes list lent choices shown rows same is told h = subst (λ fs. AreGathered count fs choices rows) (is ∙ same) (subst (λ cs. AreGathered count lent cs rows) told h)

pub mended-by : (tree : List Entry) (found : List FoundLine) (choices : List Choice) (rows : List (Vec Edit)) (changed : List ChangedFile) (count : ℕ) (told_choices : List Choice) (told_changed : List ChangedFile)
    → count ≡ length tree → Chosen (fixes_of found) choices → AreGathered count (fixes_of found) choices rows → changed ≡ changes_from (edits_at rows) 0 tree → told_choices ≡ choices → told_changed ≡ changed → IsMended tree found told_choices told_changed
mended-by tree found choices rows changed count told_choices told_changed size chosen are by first second =
    subst (λ cs. IsMended tree found cs told_changed) (sym first)
    (record { chosen = chosen; changed_are = second ∙ (by ∙ gathered-changes tree (fixes_of found) choices rows count size are) })

pub one_mending : (tree : List Entry) (found : List FoundLine) (cs ds : List Choice) (xs ys : List ChangedFile) → IsMended tree found cs xs → IsMended tree found ds ys → (cs ≡ ds) × (xs ≡ ys)
one_mending tree found cs ds xs ys a b =
    let same : cs ≡ ds = one_choice (fixes_of found) ds cs b.chosen a.chosen in
    (same, a.changed_are ∙ (ap (changes tree (fixes_of found)) same ∙ sym b.changed_are))

spots-list : (l : FoundLine) (fix : Option Fix) → length (spot_if l fix) ≡ length (fix_list fix)
spots-list l None = refl
spots-list l (Some f) = refl

-- there is a place for each fix
pub spots-size : (found : List FoundLine) → length (fix_spots found) ≡ length (fixes_of found)
spots-size [] = refl
spots-size (l ∷ ls) =
    length-append (spot_if l l.diagnostic.fix) (fix_spots ls)
    ∙ (ap (λ m. m + length (fix_spots ls)) (spots-list l l.diagnostic.fix) ∙ (ap (λ m. length (fix_list l.diagnostic.fix) + m) (spots-size ls)
    ∙ sym (length-append (fix_list l.diagnostic.fix) (fixes_of ls))))

-- what is printed of the choices stands
pub fixes-stand : (r : Reply) → Chosen (fixes_of r.diagnostics) r.choices → FixesStand r
fixes-stand r chosen =
    let count : length (fix_spots r.diagnostics) ≡ length (fixes_of r.diagnostics) = spots-size r.diagnostics in
    let size : length r.choices ≡ length (fixes_of r.diagnostics) = chosen.size in
    record {
      size = size ∙ sym count;
      earlier = λ k d lt. (let low : k < length (fixes_of r.diagnostics) = omega (arith, lt, size) in
          subst (λ m. Earlier m (get_or r.choices k d)) (sym count) (by (get_or r.choices k d) k low (subst (IsRight (fixes_of r.diagnostics) r.choices k) (same k d lt) (chosen.each k low))));
    }
  where
    same : (k : ℕ) (d : Choice) → k < length r.choices → choice_at r.choices k ≡ get_or r.choices k d
    same k d lt = any r.choices k lt
      where
        any : (cs : List Choice) (i : ℕ) → i < length cs → get_or cs i Applied ≡ get_or cs i d
        any [] i low = absurd (omega (arith, low))
        any (c ∷ cs) zero low = refl
        any (c ∷ cs) (suc i) low = any cs i (omega (arith, low))

    by : (c : Choice) (k : ℕ) → k < length (fixes_of r.diagnostics) → IsRight (fixes_of r.diagnostics) r.choices k c → Earlier (length (fixes_of r.diagnostics)) c
    by Applied k low right = tt
    by (Overlaps first) k low right = let before = right.0.before in omega (arith, low, before)
