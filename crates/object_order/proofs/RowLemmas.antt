-- Rows of numbers that are kept.
use Rattle.std.proofs.Common.{◌≡◌, ℕ, zero, suc, ◌+◌, ◌*◌, ◌<◌, ◌&&◌, Bool, true, false, if◌then◌else◌, List, [], ◌∷◌, ◌++◌, length, set, slice_get, Option, Some, None, refl, sym, ap, ◌∙◌, subst, arith, get_or, nat_eq, eqb→eq, eq-eqb, T}
use Rattle.std.proofs.lemmas.Option.{slice_get-get_or}
use Rattle.std.specs.Global.{Vec}
use Rattle.object_order.specs.Searches.{IsKept}
use Rattle.object_order.specs.SpotRows.{kept_at, kept_row, KeepsAt, IsSameRow, AreSameRows, AreBlank, IsBlank}
use Rattle.gv_base.proofs.Lists.{same_some}

-- ---- a row

blank_end : (row : List ℕ) (k : ℕ) → kept_at (row ++ 0 ∷ []) k ≡ kept_at row k
blank_end [] zero = refl
blank_end [] (suc k) = refl
blank_end (x ∷ row) zero = refl
blank_end (x ∷ row) (suc k) = blank_end row k

pub row_longer : (old mid new : List ℕ) → IsSameRow old mid → new ≡ mid ++ 0 ∷ [] → IsSameRow old new
row_longer old mid new same pushed = λ k. ap (λ (x : List ℕ). kept_at x k) pushed ∙ (blank_end mid k ∙ same k)

set_here : (row : List ℕ) (at n : ℕ) → at < length row → kept_at (set row at (suc n)) at ≡ Some n
set_here [] at n low = absurd (omega arith)
set_here (x ∷ row) zero n low = refl
set_here (x ∷ row) (suc at) n low = set_here row at n (omega arith)

set_there : (row : List ℕ) (at k n : ℕ) → (at ≡ k → ⊥) → kept_at (set row at n) k ≡ kept_at row k
set_there [] zero k n apart = refl
set_there [] (suc at) k n apart = refl
set_there (x ∷ row) zero zero n apart = absurd (apart refl)
set_there (x ∷ row) zero (suc k) n apart = refl
set_there (x ∷ row) (suc at) zero n apart = refl
set_there (x ∷ row) (suc at) (suc k) n apart = set_there row at k n (λ e. apart (omega arith))

same_numbers : (a b : ℕ) → nat_eq a b ≡ true → a ≡ b
same_numbers a b e = eqb→eq a b (subst (λ (x : Bool). T x) (sym e) tt)

apart_numbers : (a b : ℕ) → nat_eq a b ≡ false → a ≡ b → ⊥
apart_numbers a b e same = let h : nat_eq a b ≡ true = eq-eqb a b same in cc

set_row : (row : List ℕ) (at k n : ℕ) → at < length row → kept_at (set row at (suc n)) k ≡ (if nat_eq at k then Some n else kept_at row k)
set_row row at k n low = either (nat_eq at k) refl where
  either : (b : Bool) → nat_eq at k ≡ b → kept_at (set row at (suc n)) k ≡ (if b then Some n else kept_at row k)
  either true e = ap (λ x. kept_at (set row at (suc n)) x) (sym (same_numbers at k e)) ∙ set_here row at n low
  either false e = set_there row at k (suc n) (apart_numbers at k e)

pub keeps : (old mid new : List ℕ) (at n : ℕ) → IsSameRow old mid → at < length mid → new ≡ set mid at (n + 1) → KeepsAt old new at n
keeps old mid new at n same low now =
    λ k. ap (λ (x : List ℕ). kept_at x k) (now ∙ ap (λ m. set mid at m) (more n)) ∙ (set_row mid at k n low ∙ ap (λ (o : Option ℕ). if nat_eq at k then Some n else o) (same k)) where
      more : (m : ℕ) → m + 1 ≡ suc m
      more m = omega arith

-- ---- rows

one_more : (rows : List (Vec ℕ)) (row : Vec ℕ) (f k : ℕ) → IsBlank row.items → kept_row (rows ++ row ∷ []) (f, k) ≡ kept_row rows (f, k)
one_more [] row zero k blank = blank k
one_more [] row (suc f) k blank = refl
one_more (r ∷ rows) row zero k blank = refl
one_more (r ∷ rows) row (suc f) k blank = one_more rows row f k blank

pub rows_longer : (old mid new : List (Vec ℕ)) (row : Vec ℕ) → AreSameRows old mid → row.items ≡ [] → new ≡ mid ++ row ∷ [] → AreSameRows old new
rows_longer old mid new row same empty pushed =
    λ q. ap (λ (x : List (Vec ℕ)). kept_row x q) pushed ∙ (one_more mid row q.0 q.1 (λ k. ap (λ (x : List ℕ). kept_at x k) empty) ∙ same q)

pub rows_blank : (mid new : List (Vec ℕ)) (row : Vec ℕ) → AreBlank mid → IsBlank row.items → new ≡ mid ++ row ∷ [] → AreBlank new
rows_blank mid new row none blank pushed = λ q. ap (λ (x : List (Vec ℕ)). kept_row x q) pushed ∙ (one_more mid row q.0 q.1 blank ∙ none q)

pub none_blank : (rows : List (Vec ℕ)) → rows ≡ [] → AreBlank rows
none_blank rows empty = λ q. ap (λ (x : List (Vec ℕ)). kept_row x q) empty

rows_here : (rows : List (Vec ℕ)) (old row : Vec ℕ) (f k n j : ℕ) → slice_get rows f ≡ Some old → KeepsAt old.items row.items k n
    → kept_row (set rows f row) (f, j) ≡ (if nat_eq k j then Some n else kept_row rows (f, j))
rows_here [] old row f k n j at is = absurd (cc)
rows_here (r ∷ rows) old row zero k n j at is =
    is j ∙ ap (λ (x : Vec ℕ). if nat_eq k j then Some n else kept_at x.items j) (sym (same_some (Some r) r old refl at))
rows_here (r ∷ rows) old row (suc f) k n j at is = rows_here rows old row f k n j at is

rows_there : (rows : List (Vec ℕ)) (row : Vec ℕ) (f g j : ℕ) → (f ≡ g → ⊥) → kept_row (set rows f row) (g, j) ≡ kept_row rows (g, j)
rows_there [] row zero g j apart = refl
rows_there [] row (suc f) g j apart = refl
rows_there (r ∷ rows) row zero zero j apart = absurd (apart refl)
rows_there (r ∷ rows) row zero (suc g) j apart = refl
rows_there (r ∷ rows) row (suc f) zero j apart = refl
rows_there (r ∷ rows) row (suc f) (suc g) j apart = rows_there rows row f g j (λ e. apart (omega arith))

set_rows : (rows : List (Vec ℕ)) (old row : Vec ℕ) (f k n g j : ℕ) → slice_get rows f ≡ Some old → KeepsAt old.items row.items k n
    → kept_row (set rows f row) (g, j) ≡ (if nat_eq f g && nat_eq k j then Some n else kept_row rows (g, j))
set_rows rows old row f k n g j at is = either (nat_eq f g) refl where
  either : (b : Bool) → nat_eq f g ≡ b → kept_row (set rows f row) (g, j) ≡ (if b && nat_eq k j then Some n else kept_row rows (g, j))
  either true e = subst (λ x. kept_row (set rows f row) (x, j) ≡ (if nat_eq k j then Some n else kept_row rows (x, j))) (same_numbers f g e) (rows_here rows old row f k n j at is)
  either false e = rows_there rows row f g j (apart_numbers f g e)

-- the row that is got of the rows is changed
pub keeps_in : (rows new : List (Vec ℕ)) (old row : Vec ℕ) (key : ℕ × ℕ) (n : ℕ) → key.0 < length rows → old ≡ get_or rows key.0 old → KeepsAt old.items row.items key.1 n
    → new ≡ set rows key.0 row → IsKept (kept_row rows) (kept_row new) key n
keeps_in rows new old row key n low got is now =
    λ q. ap (λ (x : List (Vec ℕ)). kept_row x q) now
    ∙ set_rows rows old row key.0 key.1 n q.0 q.1 (slice_get-get_or rows key.0 old low ∙ ap (λ (x : Vec ℕ). Some x) (sym got)) is
