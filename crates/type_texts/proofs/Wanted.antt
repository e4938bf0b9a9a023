-- What a stack of runs wants, and the loop that reads a row.
use Rattle.std.proofs.Common.{◌≡◌, ℕ, zero, suc, ◌+◌, ◌-◌, ◌<◌, ◌≤◌, List, [], ◌∷◌, ◌++◌, Option, Some, None, refl, sym, ap, ◌∙◌, append_assoc, arith}
use Rattle.std.proofs.lemmas.List.{append-nil}
use Rattle.std.specs.Prelude.{MatchOption}
use Rattle.gv_bytes.specs.Reading.{◌>>=◌, Fails}
use Rattle.gv_bytes.specs.declared.unread.Unread.{Unread}
use Rattle.gv_bytes.specs.declared.unread.Unread.TheVariants as unread
use Rattle.gv_bytes.proofs.Options.{just}
use Rattle.gv_bytes.proofs.Loops.{with_front}
use Rattle.type_texts.specs.declared.pieces.Piece.{Piece}
use Rattle.type_texts.specs.declared.pieces.Sort.{Sort}
use Rattle.type_texts.specs.declared.pieces.Run.{Run}
use Rattle.type_texts.specs.Pieces.{copies, wanted, wants_of, piece_at, pieces_at}

-- the last run is wanted first
pub wanted_last : (runs : List Run) (r : Run) → wanted (runs ++ r ∷ []) ≡ copies r.count r.sort ++ wanted runs
wanted_last [] r = sym (append-nil (copies r.count r.sort))
wanted_last (x ∷ runs) r = ap (λ (z : List Sort). z ++ copies x.count x.sort) (wanted_last runs r) ∙ append_assoc (copies r.count r.sort) (wanted runs) (copies x.count x.sort)

pub one_less : (s : Sort) (n : ℕ) (wants : List Sort) → 0 < n → copies n s ++ wants ≡ s ∷ (copies (n - 1) s ++ wants)
one_less s zero wants some = absurd (omega (arith, some))
one_less s (suc n) wants some = let e : suc n - 1 ≡ n = omega arith in rw e refl

pub no_more : (s : Sort) (n : ℕ) (wants : List Sort) → n ≤ 0 → copies n s ++ wants ≡ wants
no_more s zero wants none = refl
no_more s (suc n) wants none = absurd (omega (arith, none))

-- ---- the loop

regroup : (front : List Piece) (p : Piece) (read : Option (List Piece × List ℕ)) → with_front front (read >>= λ x. Some (p ∷ x.0, x.1)) ≡ with_front (front ++ p ∷ []) read
regroup front p (Some x) = ap (λ (ps : List Piece). just (ps, x.1)) (sym (append_assoc front (p ∷ []) x.0))
regroup front p None = refl

-- a piece more was read
pub goes_on : (front : List Piece) (count i : ℕ) (old now more : List Sort) (s : Sort) (bytes after : List ℕ) (p : Piece) (total : Option (List Piece × List ℕ)) → i < count
    → old ≡ s ∷ more → now ≡ wants_of p ++ more → piece_at s bytes ≡ Some (p, after)
    → with_front front (pieces_at (count - i) old bytes) ≡ total → with_front (front ++ p ∷ []) (pieces_at (count - (i + 1)) now after) ≡ total
unfolding pieces_at
goes_on front count i old now more s bytes after p total lt is want read so_far =
    let k : count - i ≡ suc (count - (i + 1)) = omega (arith, lt) in
    let one : with_front front (pieces_at (count - i) old bytes) ≡ with_front (front ++ p ∷ []) (pieces_at (count - (i + 1)) now after) =
    rw (k, is, want, read) (regroup front p (pieces_at (count - (i + 1)) (wants_of p ++ more) after)) in
    sym one ∙ so_far

-- a piece isn't spelled
pub ends : (front : List Piece) (count i : ℕ) (old more : List Sort) (s : Sort) (bytes : List ℕ) (total : Option (List Piece × List ℕ)) → i < count
    → old ≡ s ∷ more → piece_at s bytes ≡ None → with_front front (pieces_at (count - i) old bytes) ≡ total → total ≡ None
unfolding pieces_at
ends front count i old more s bytes total lt is read so_far =
    let k : count - i ≡ suc (count - (i + 1)) = omega (arith, lt) in
    let one : with_front front (pieces_at (count - i) old bytes) ≡ None = rw (k, is, read) refl in
    sym so_far ∙ one

pub fails : (e : Unread) (front : List Piece) (count i : ℕ) (old more : List Sort) (s : Sort) (bytes : List ℕ) (total : Option (List Piece × List ℕ)) → i < count
    → old ≡ s ∷ more → Fails e (piece_at s bytes) → with_front front (pieces_at (count - i) old bytes) ≡ total → Fails e total
fails unread.Memory front count i old more s bytes total lt is read so_far = tt
fails unread.Unspelled front count i old more s bytes total lt is read so_far = ends front count i old more s bytes total lt is read so_far

-- nothing more is wanted
pub is_done : (front : List Piece) (n : ℕ) (old : List Sort) (bytes : List ℕ) (total : Option (List Piece × List ℕ)) → old ≡ []
    → with_front front (pieces_at n old bytes) ≡ total → total ≡ Some (front, bytes)
unfolding pieces_at
is_done front zero old bytes total is so_far =
    let one : with_front front (pieces_at zero old bytes) ≡ Some (front, bytes) = rw is (ap (λ (ps : List Piece). just (ps, bytes)) (append-nil front)) in
    sym so_far ∙ one
is_done front (suc n) old bytes total is so_far =
    let one : with_front front (pieces_at (suc n) old bytes) ≡ Some (front, bytes) = rw is (ap (λ (ps : List Piece). just (ps, bytes)) (append-nil front)) in
    sym so_far ∙ one

-- more is wanted than there are bytes
pub too_short : (front : List Piece) (count i : ℕ) (old more : List Sort) (s : Sort) (bytes : List ℕ) (total : Option (List Piece × List ℕ)) → count ≤ i → old ≡ s ∷ more
    → with_front front (pieces_at (count - i) old bytes) ≡ total → total ≡ None
unfolding pieces_at
too_short front count i old more s bytes total le is so_far =
    let k : count - i ≡ 0 = omega (arith, le) in
    let one : with_front front (pieces_at (count - i) old bytes) ≡ None = rw (k, is) refl in
    sym so_far ∙ one

-- ---- the stack

pub popped : (args old new : List Run) (r : Run) (pushed : List Sort) → wanted old ≡ wanted args → old ≡ new ++ r ∷ [] → 0 < r.count → pushed ≡ copies (r.count - 1) r.sort ++ wanted new → wanted args ≡ r.sort ∷ pushed
popped args old new r pushed so_far is some push =
    sym so_far ∙ ap wanted is ∙ wanted_last new r ∙ one_less r.sort r.count (wanted new) some ∙ ap (λ (z : List Sort). r.sort ∷ z) (sym push)

pub passed : (args old new : List Run) (r : Run) → wanted old ≡ wanted args → old ≡ new ++ r ∷ [] → r.count ≤ 0 → wanted new ≡ wanted args
passed args old new r so_far is none = sym (no_more r.sort r.count (wanted new) none) ∙ sym (wanted_last new r) ∙ ap wanted (sym is) ∙ so_far

pub default_empty : {A : Type 0} (next : Option A) (N : Type 0) (S : A → Type 0) → ((x : A) → next ≡ Some x → ⊥) → MatchOption next N S → N
default_empty None N S not h = h
default_empty (Some x) N S not h = absurd (not x refl)
