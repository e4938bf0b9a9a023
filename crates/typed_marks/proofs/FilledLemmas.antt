-- What cells have by the numbers of their marks.
use Rattle.std.proofs.Common.{◌≡◌, ℕ, zero, suc, ◌+◌, ◌-◌, ◌<◌, ◌≤◌, List, [], ◌∷◌, ◌++◌, length, map, set, take, slice_get, Option, Some, None, option_and_then, is_some, nat_lt, true, false, refl, sym, ap, ◌∙◌, subst, arith, inl, inr}
use Rattle.std.specs.Prelude.{replicate}
use Rattle.std.proofs.lemmas.Bool.Decides.{nat_tests}
use Rattle.std.proofs.lemmas.List.{map-append, take_all}
use Rattle.std.proofs.lemmas.Option.{slice_get_within}
use Rattle.gv_base.proofs.Lists.{set_cases}
use Rattle.typed_marks.specs.declared.mark.Mark.{Mark}
use Rattle.typed_marks.specs.Cells.{Filled, cell, filled, AllNone, AreNumbered, Holds}

-- ---- more cells without marks

both_none : (xs ys : List (Option Mark)) → AllNone xs → AllNone ys → AllNone (xs ++ ys)
both_none [] ys none also n = also n
both_none (x ∷ xs) ys none also zero = none zero
both_none (x ∷ xs) ys none also (suc n) = both_none xs ys (λ k. none (suc k)) also n

blank_none : (marks : List (Option Mark)) → slice_get marks 0 ≡ Some None → (count : ℕ) → AllNone (filled marks (replicate count 0))
blank_none marks first zero n = refl
blank_none marks first (suc count) zero = ap (λ o. option_and_then (λ (x : Option Mark). x) o) first
blank_none marks first (suc count) (suc n) = blank_none marks first count n

pub none_after : (marks : List (Option Mark)) (numbers : List ℕ) (size count : ℕ) → slice_get marks 0 ≡ Some None → length numbers ≤ size → AllNone (filled marks numbers)
    → AllNone (filled marks (take size numbers ++ replicate count 0))
none_after marks numbers size count first low none =
    let all : take size numbers ≡ numbers = take_all size numbers low in
    let parts : filled marks (numbers ++ replicate count 0) ≡ filled marks numbers ++ filled marks (replicate count 0) = map-append (cell marks) numbers (replicate count 0) in
    subst AllNone (sym (ap (λ xs. filled marks (xs ++ replicate count 0)) all ∙ parts)) (both_none (filled marks numbers) (filled marks (replicate count 0)) none (blank_none marks first count))

-- ---- one cell has a mark

filled_still : (old new : List (Option Mark)) → ((n : ℕ) → n < length old → slice_get new n ≡ slice_get old n)
    → (numbers : List ℕ) → ((k n : ℕ) → slice_get numbers k ≡ Some n → n < length old) → filled new numbers ≡ filled old numbers
filled_still old new still [] within = refl
filled_still old new still (x ∷ numbers) within =
    let here : cell new x ≡ cell old x = ap (λ o. option_and_then (λ (m : Option Mark). m) o) (still x (within 0 x refl)) in
    let rest : filled new numbers ≡ filled old numbers = filled_still old new still numbers (λ k. within (suc k)) in
    ap (λ (y : Option Mark). y ∷ filled new numbers) here ∙ ap (λ (ys : List (Option Mark)). cell old x ∷ ys) rest

filled_set : (marks : List (Option Mark)) (numbers : List ℕ) (place number : ℕ) → filled marks (set numbers place number) ≡ set (filled marks numbers) place (cell marks number)
filled_set marks [] zero number = refl
filled_set marks [] (suc place) number = refl
filled_set marks (x ∷ numbers) zero number = refl
filled_set marks (x ∷ numbers) (suc place) number = ap (λ (ys : List (Option Mark)). cell marks x ∷ ys) (filled_set marks numbers place number)

pub filled_here : (old new : List (Option Mark)) (numbers : List ℕ) (place number : ℕ) (mark : Mark) → AreNumbered old numbers → Holds old new mark number
    → filled new (set numbers place number) ≡ set (filled old numbers) place (Some mark)
filled_here old new numbers place number mark are holds =
    filled_set new numbers place number ∙ ap (λ xs. set xs place (cell new number)) (filled_still old new holds.still numbers are.within)
    ∙ ap (set (filled old numbers) place) holds.here

-- ---- whether a cell has a mark

cell_filled : (marks : List (Option Mark)) (numbers : List ℕ) (place n : ℕ) → slice_get numbers place ≡ Some n → cell (filled marks numbers) place ≡ cell marks n
cell_filled marks [] place n e = absurd cc
cell_filled marks (x ∷ numbers) zero n e = let same : x ≡ n = cc in ap (cell marks) same
cell_filled marks (x ∷ numbers) (suc place) n e = cell_filled marks numbers place n e

some_there : (o : Option Mark) → (o ≡ None → ⊥) → is_some o ≡ true
some_there None never = absurd (never refl)
some_there (Some m) never = refl

pub number_tells : (marks : List (Option Mark)) (numbers : List ℕ) (place n : ℕ) → AreNumbered marks numbers → slice_get numbers place ≡ Some n → nat_lt 0 n ≡ is_some (cell (filled marks numbers) place)
number_tells marks numbers place zero are e = sym (ap (λ (o : Option Mark). is_some o) (cell_filled marks numbers place zero e ∙ ap (λ o. option_and_then (λ (m : Option Mark). m) o) are.none))
number_tells marks numbers place (suc n) are e =
    let more : nat_lt 0 (suc n) ≡ true = grind (arith, nat_tests) in
    more ∙ sym (ap (λ (o : Option Mark). is_some o) (cell_filled marks numbers place (suc n) e) ∙ some_there (cell marks (suc n)) (are.others (suc n) (omega arith) (are.within place (suc n) e)))

pub none_tells : (marks : List (Option Mark)) (numbers : List ℕ) (place : ℕ) → slice_get numbers place ≡ None → false ≡ is_some (cell (filled marks numbers) place)
none_tells marks [] zero e = refl
none_tells marks [] (suc place) e = refl
none_tells marks (x ∷ numbers) zero e = absurd cc
none_tells marks (x ∷ numbers) (suc place) e = none_tells marks numbers place e

-- ---- one cell more has a mark

others_still : (old new : List (Option Mark)) (numbers : List ℕ) (mark : Mark) (number : ℕ) → AreNumbered old numbers → Holds old new mark number
    → (n : ℕ) → 0 < n → n < length new → cell new n ≡ None → ⊥
others_still old new numbers mark number are holds n low within empty = elim (holds.only n within) [
  | inl before ↦ are.others n low before (ap (λ o. option_and_then (λ (m : Option Mark). m) o) (sym (holds.still n before)) ∙ empty)
  | inr same ↦ (let here : cell new n ≡ Some mark = ap (cell new) same ∙ holds.here in absurd cc)
]

cell_within : (marks : List (Option Mark)) (n : ℕ) (mark : Mark) → cell marks n ≡ Some mark → n < length marks
cell_within marks n mark e = by (slice_get marks n) refl where
  by : (o : Option (Option Mark)) → slice_get marks n ≡ o → n < length marks
  by None f = absurd (let none : cell marks n ≡ None = ap (λ o. option_and_then (λ (m : Option Mark). m) o) f in cc)
  by (Some x) f = slice_get_within marks n x f

pub numbered_set : (old new : List (Option Mark)) (numbers : List ℕ) (place number : ℕ) (mark : Mark) → AreNumbered old numbers → Holds old new mark number → AreNumbered new (set numbers place number)
numbered_set old new numbers place number mark are holds = record {
  none = holds.still 0 (slice_get_within old 0 None are.none) ∙ are.none;
  others = others_still old new numbers mark number are holds;
  within = λ k n e. elim (set_cases numbers place number k n e) [
    | inl (apart, was) ↦ let before = are.within k n was in let more = holds.more in omega (arith, before, more)
    | inr (same, is) ↦ subst (λ m. m < length new) is (cell_within new number mark holds.here)
  ];
}
