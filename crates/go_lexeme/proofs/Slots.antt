-- A look-up by slots finds what a search of the table finds.
use Rattle.std.proofs.Common.{◌≡◌, ℕ, ◌<◌, ◌≤◌, Bool, true, false, cond, ◌&&◌, ◌==◌, List, [], Option, Some, None, length, get_or, refl, sym, ap, ◌∙◌, arith, bytes_eq, nat_lt, ⊎_elim, zero, suc, map}
use Rattle.std.specs.Prelude.{slice_index}
use Rattle.std.specs.Cmp.{first_so, second_so}
use Rattle.std.proofs.str.Laws.{order}
use Rattle.std.proofs.lemmas.List.{get_or-map, length-map}
use Rattle.std.proofs.lemmas.Bool.{cond-true, cond-false, ltb-true, lt-ltb}
use Rattle.std.proofs.lemmas.Bool.Decides.{Decides-eqb}
use Rattle.std.proofs.lemmas.Slice.Eq.{bytes_eq-Decides}
use Rattle.std.proofs.lemmas.List.Quantifiers.{position-Some}
use Rattle.std.proofs.lemmas.Iterator.Adapters.{position_from-zero}
use Rattle.go_tree.specs.Lexeme.{place_of}
use Rattle.go_lexeme.specs.Slots.{slot_of, slot_place}

-- a test passes of each number below one
abbrev pub each_below : ℕ → (ℕ → Bool) → Bool
each_below zero p = true
each_below (suc n) p = p n && each_below n p

each_below_at : (n : ℕ) (p : ℕ → Bool) → each_below n p ≡ true → (k : ℕ) → k < n → p k ≡ true
each_below_at zero p each k lt = absurd (omega arith)
each_below_at (suc n) p each k lt = ⊎_elim (λ less. each_below_at n p (second_so _ _ each) k less) (λ le. let e : k ≡ n = omega arith in ap p e ∙ first_so _ _ each) (order k n)

abbrev is_at : ℕ → Option ℕ → Bool
is_at place None = false
is_at place (Some k) = k == place

is_at_is : (place : ℕ) (o : Option ℕ) → is_at place o ≡ true → o ≡ Some place
is_at_is place None is = absurd (let e = is in cc)
is_at_is place (Some k) is = ap Some ((Decides-eqb k place).0 is)

-- each spelling of the table has a slot of its own that tells its place
abbrev pub are_slots : List (List ℕ) → List ℕ → Bool
are_slots table slots = each_below (length table) (λ k. slice_index slots (slot_of (get_or table k [])) == k)

-- no spelling stands twice in the table
abbrev pub are_distinct : List (List ℕ) → Bool
are_distinct table = each_below (length table) (λ k. is_at k (place_of table (get_or table k [])))

refuted : (b : Bool) → (b ≡ true → ⊥) → b ≡ false
refuted true h = absurd (h refl)
refuted false h = refl

both : (a b : Bool) → a ≡ true → b ≡ true → (a && b) ≡ true
both a b first second = ap (λ t. t && b) first ∙ second

-- the word stands at the place
abbrev stands : List (List ℕ) → List ℕ → ℕ → Bool
stands table word place = nat_lt place (length table) && bytes_eq (get_or table place []) word

abbrev at_place : List (List ℕ) → List ℕ → ℕ → Option ℕ
at_place table word place = cond (stands table word place) (Some place) None

stands_within : (table : List (List ℕ)) (word : List ℕ) (place : ℕ) → stands table word place ≡ true → place < length table
stands_within table word place test = ltb-true place (length table) (first_so (nat_lt place (length table)) (bytes_eq (get_or table place []) word) test)

stands_equal : (table : List (List ℕ)) (word : List ℕ) (place : ℕ) → stands table word place ≡ true → bytes_eq (get_or table place []) word ≡ true
stands_equal table word place test = second_so (nat_lt place (length table)) (bytes_eq (get_or table place []) word) test

at_none : (table : List (List ℕ)) (word : List ℕ) (place : ℕ) → (stands table word place ≡ true → ⊥) → at_place table word place ≡ None
at_none table word place other = cond-false (stands table word place) (Some place) None (refuted (stands table word place) other)

at_some : (table : List (List ℕ)) (word : List ℕ) (place : ℕ) → place < length table → bytes_eq (get_or table place []) word ≡ true → at_place table word place ≡ Some place
at_some table word place lt equal = cond-true (stands table word place) (Some place) None (both (nat_lt place (length table)) (bytes_eq (get_or table place []) word) (lt-ltb place (length table) lt) equal)

slot_some : (table : List (List ℕ)) (slots word : List ℕ) → are_slots table slots ≡ true → (k : ℕ) → place_of table word ≡ Some k → slot_place table slots word ≡ Some k
unfolding slot_place
slot_some table slots word fits k found =
    let at = position-Some (λ s. bytes_eq s word) table k [] (position_from-zero (λ s. bytes_eq s word) table ∙ found) in
    let same : get_or table k [] ≡ word = (bytes_eq-Decides (get_or table k []) word).0 at.1 in
    let own = (Decides-eqb (slice_index slots (slot_of (get_or table k []))) k).0 (each_below_at (length table) (λ j. slice_index slots (slot_of (get_or table j [])) == j) fits k at.0) in
    let slot : slice_index slots (slot_of word) ≡ k = ap (λ w. slice_index slots (slot_of w)) (sym same) ∙ own in
    ap (at_place table word) slot ∙ at_some table word k at.0 at.1

stands_is : (table : List (List ℕ)) (word : List ℕ) (i : ℕ) → are_distinct table ≡ true → stands table word i ≡ true → place_of table word ≡ Some i
stands_is table word i distinct test =
    let same : get_or table i [] ≡ word = (bytes_eq-Decides (get_or table i []) word).0 (stands_equal table word i test) in
    let found : place_of table (get_or table i []) ≡ Some i = is_at_is i _ (each_below_at (length table) (λ j. is_at j (place_of table (get_or table j []))) distinct i (stands_within table word i test)) in
    ap (place_of table) (sym same) ∙ found

slot_none : (table : List (List ℕ)) (slots word : List ℕ) → are_distinct table ≡ true → place_of table word ≡ None → slot_place table slots word ≡ None
unfolding slot_place
slot_none table slots word distinct none = at_none table word (slice_index slots (slot_of word)) (λ test.
    let found = stands_is table word (slice_index slots (slot_of word)) distinct test in cc (found, none))

slot_by : (table : List (List ℕ)) (slots word : List ℕ) → are_slots table slots ≡ true → are_distinct table ≡ true → (o : Option ℕ) → place_of table word ≡ o → slot_place table slots word ≡ o
slot_by table slots word fits distinct None is = slot_none table slots word distinct is
slot_by table slots word fits distinct (Some k) is = slot_some table slots word fits k is

-- a look-up by slots finds the place
pub slot_place_is : (table : List (List ℕ)) (slots word : List ℕ) → are_slots table slots ≡ true → are_distinct table ≡ true → slot_place table slots word ≡ place_of table word
slot_place_is table slots word fits distinct = slot_by table slots word fits distinct (place_of table word) refl

-- What the code finds.

pub place_found : {A : Type 0} (f : A → List ℕ) (table : List A) (slots word : List ℕ) (i : ℕ) (d : A) → i ≡ slice_index slots (slot_of word) → i < length table → true ≡ bytes_eq (f (get_or table i d)) word → Some i ≡ slot_place (map f table) slots word
unfolding slot_place
place_found f table slots word i d is lt same =
    let equal : bytes_eq (get_or (map f table) i []) word ≡ true = ap (λ s. bytes_eq s word) (get_or-map f table i d [] lt) ∙ sym same in
    let within : i < length (map f table) = omega (arith, lt, length-map table f) in
    sym (at_some (map f table) word i within equal) ∙ ap (at_place (map f table) word) is

pub place_past : {A : Type 0} (f : A → List ℕ) (table : List A) (slots word : List ℕ) (i : ℕ) → i ≡ slice_index slots (slot_of word) → length table ≤ i → None ≡ slot_place (map f table) slots word
unfolding slot_place
place_past f table slots word i is past =
    let none : at_place (map f table) word i ≡ None = at_none (map f table) word i (λ test. let lt = stands_within (map f table) word i test in omega (arith, lt, past, length-map table f)) in
    sym none ∙ ap (at_place (map f table) word) is

pub place_other : {A : Type 0} (f : A → List ℕ) (table : List A) (slots word : List ℕ) (i : ℕ) (d : A) → i ≡ slice_index slots (slot_of word) → i < length table → false ≡ bytes_eq (f (get_or table i d)) word → None ≡ slot_place (map f table) slots word
unfolding slot_place
place_other f table slots word i d is lt other =
    let equal : bytes_eq (get_or (map f table) i []) word ≡ false = ap (λ s. bytes_eq s word) (get_or-map f table i d [] lt) ∙ sym other in
    let none : at_place (map f table) word i ≡ None = at_none (map f table) word i (λ test. let is_so = stands_equal (map f table) word i test in cc (is_so, equal)) in
    sym none ∙ ap (at_place (map f table) word) is
