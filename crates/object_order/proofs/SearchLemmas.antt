-- The spots that a search finds, and the graph over their numbers.
use Rattle.std.proofs.Common.{◌≡◌, ℕ, zero, suc, ◌+◌, ◌<◌, ◌≤◌, ◌⊎◌, Bool, true, false, if◌then◌else◌, List, [], ◌∷◌, ◌++◌, map, take, length, slice_get, Option, Some, None, refl, sym, ap, ◌∙◌, subst, inl, inr, arith, append_assoc, length-append}
use Rattle.object_order.specs.declared.rows.SpotRows.{SpotRows}
use Rattle.std.proofs.lemmas.List.{append-nil}
use Rattle.std.proofs.lemmas.Option.{slice_get_within, slice_get-get_or}
use Rattle.go_tree.specs.Spells.{Among}
use Rattle.object_order.specs.declared.spot.Spot.{Spot}
use Rattle.object_order.specs.Views.{same_key}
use Rattle.object_order.specs.SpotRows.{kept_in}
use Rattle.object_order.specs.Searches.{key_of, IsKept, AreNumbered, Finds, IsRowOf, IsUnderWay, IsExplored, AddsRow}
use Rattle.object_order.proofs.SpotLemmas.{one_key, key_parts, key_itself, among_left, among_right}
use Rattle.gv_base.proofs.Lists.{at_end, get_left, push_cases, same_some}

cases_of : (b : Bool) → (b ≡ true) ⊎ (b ≡ false)
cases_of true = inl refl
cases_of false = inr refl

-- ---- one spot

pub numbered_none : (numbers : SpotRows) (found : List Spot) → ((q : ℕ × ℕ) → kept_in numbers q ≡ None) → found ≡ [] → AreNumbered numbers found
numbered_none numbers found none empty = record {
  few = (let e : length found ≡ 0 = ap (λ (x : List Spot). length x) empty in omega arith);
  there = λ i s is. absurd (nothing i s is);
  back = λ i s is. absurd (no_number i (sym (none (key_of s)) ∙ is));
} where
  nothing : (i : ℕ) (s : Spot) → slice_get found i ≡ Some s → ⊥
  nothing i s is = let e : slice_get [] i ≡ Some s = ap (λ (x : List Spot). slice_get x i) (sym empty) ∙ is in cc

  no_number : (i : ℕ) → None ≡ Some i → ⊥
  no_number i e = cc

pub finds_itself : (numbers : SpotRows) (found : List Spot) (these : List Spot) → AreNumbered numbers found → Finds numbers found found these
finds_itself numbers found these are = record { more = []; grown = sym (append-nil found); numbered = are; from = λ i s is. inl is }

kept_here : (a b : Option ℕ) (n : ℕ) (d : Bool) → d ≡ true → b ≡ (if d then Some n else a) → b ≡ Some n
kept_here a b n true e is = is
kept_here a b n false e is = absurd (cc)

kept_there : (a b : Option ℕ) (n : ℕ) (d : Bool) → d ≡ false → b ≡ (if d then Some n else a) → b ≡ a
kept_there a b n true e is = absurd (cc)
kept_there a b n false e is = is

none_some : (i : ℕ) → None ≡ Some i → ⊥
none_some i e = cc

pub numbered_more : (old new : SpotRows) (found : List Spot) (s : Spot) (n : ℕ)
    → AreNumbered old found → kept_in old (key_of s) ≡ None → n ≡ length found → length found < 4294967295 → IsKept (kept_in old) (kept_in new) (key_of s) n
    → AreNumbered new (found ++ s ∷ [])
numbered_more old new found s n are fresh count few kept = record {
  few = (let e = length-append found (s ∷ []) in omega arith);
  there = λ i t is. elim (push_cases found s t i is) [
    | inl before ↦ old_there i t before
    | inr (last, same) ↦ ap (λ (x : Spot). kept_in new (key_of x)) (sym same) ∙ (here ∙ ap (λ x. Some x) (count ∙ sym last))
  ];
  back = λ i t is. elim (cases_of (same_key (key_of s) (key_of t))) [
    | inl same ↦ (let one : s ≡ t = one_key s t (key_parts (key_of s) (key_of t) same) in
        let value : kept_in new (key_of t) ≡ Some n = kept_here (kept_in old (key_of t)) (kept_in new (key_of t)) n (same_key (key_of s) (key_of t)) same (kept (key_of t)) in
        let i_is : n ≡ i = same_some (kept_in new (key_of t)) n i value is in
        ap (λ x. slice_get (found ++ s ∷ []) x) (sym i_is ∙ count) ∙ (at_end found s ∙ ap (λ x. Some x) one))
    | inr apart ↦ get_left found (s ∷ []) i t (are.back i t (sym (kept_there (kept_in old (key_of t)) (kept_in new (key_of t)) n (same_key (key_of s) (key_of t)) apart (kept (key_of t))) ∙ is))
  ];
} where
  here : kept_in new (key_of s) ≡ Some n
  here = kept_here (kept_in old (key_of s)) (kept_in new (key_of s)) n (same_key (key_of s) (key_of s)) (key_itself (key_of s)) (kept (key_of s))

  old_there : (i : ℕ) (t : Spot) → slice_get found i ≡ Some t → kept_in new (key_of t) ≡ Some i
  old_there i t is = elim (cases_of (same_key (key_of s) (key_of t))) [
    | inl same ↦ absurd (none_some i (sym fresh ∙ (ap (λ x. kept_in old x) (key_parts (key_of s) (key_of t) same) ∙ are.there i t is)))
    | inr apart ↦ kept_there (kept_in old (key_of t)) (kept_in new (key_of t)) n (same_key (key_of s) (key_of t)) apart (kept (key_of t)) ∙ are.there i t is
  ]

pub finds_new : (old new : SpotRows) (found now : List Spot) (s : Spot) (key : ℕ × ℕ) (n : ℕ)
    → AreNumbered old found → kept_in old (key_of s) ≡ None → n ≡ length found → length found < 4294967295 → key ≡ key_of s → IsKept (kept_in old) (kept_in new) key n → now ≡ found ++ s ∷ []
    → Finds new found now (s ∷ [])
finds_new old new found now s key n are fresh count few key_is kept pushed = record {
  more = s ∷ [];
  grown = pushed;
  numbered = subst (λ (x : List Spot). AreNumbered new x) (sym pushed)
      (numbered_more old new found s n are fresh count few (subst (λ (x : ℕ × ℕ). IsKept (kept_in old) (kept_in new) x n) key_is kept));
  from = λ i t is. elim (push_cases found s t i (subst (λ (x : List Spot). slice_get x i ≡ Some t) pushed is)) [
    | inl before ↦ inl before
    | inr (last, same) ↦ inr (inl same)
  ];
}

pub new_there : (found now : List Spot) (s : Spot) (n : ℕ) → n ≡ length found → now ≡ found ++ s ∷ [] → slice_get now n ≡ Some s
new_there found now s n count pushed = ap (λ (x : List Spot). slice_get x n) pushed ∙ (ap (λ x. slice_get (found ++ s ∷ []) x) count ∙ at_end found s)

pub known_there : (numbers : SpotRows) (found : List Spot) (s : Spot) (key : ℕ × ℕ) (n : ℕ) → AreNumbered numbers found → key ≡ key_of s → Some n ≡ kept_in numbers key → slice_get found n ≡ Some s
known_there numbers found s key n are key_is is = are.back n s (ap (λ x. kept_in numbers x) (sym key_is) ∙ sym is)

-- ---- a row

-- what is found stays in its place
pub still_there : (old more new : List Spot) (i : ℕ) (s : Spot) → new ≡ old ++ more → slice_get old i ≡ Some s → slice_get new i ≡ Some s
still_there old more new i s grown is = ap (λ (x : List Spot). slice_get x i) grown ∙ get_left old more i s is

head_is : {X : Type 0} (x y : X) (xs ys : List X) → x ∷ xs ≡ y ∷ ys → x ≡ y
head_is x y xs ys e = cc

tail_is : {X : Type 0} (x y : X) (xs ys : List X) → x ∷ xs ≡ y ∷ ys → xs ≡ ys
tail_is x y xs ys e = cc

two : {X : Type 0} (x y : X) (xs ys : List X) → x ≡ y → xs ≡ ys → x ∷ xs ≡ y ∷ ys
two x y xs ys e f = cc

no_cons : {X : Type 0} (x : X) (xs : List X) → [] ≡ x ∷ xs → ⊥
no_cons x xs e = cc

pub row_grown : (old more new : List Spot) (row : List ℕ) (these : List Spot) → new ≡ old ++ more → IsRowOf old row these → IsRowOf new row these
row_grown old more new [] [] grown is = refl
row_grown old more new [] (s ∷ these) grown is = absurd (no_cons (Some s) (map (λ (x : Spot). Some x) these) is)
row_grown old more new (j ∷ row) [] grown is = absurd (no_cons (slice_get old j) (map (λ x. slice_get old x) row) (sym is))
row_grown old more new (j ∷ row) (s ∷ these) grown is =
    two (slice_get new j) (Some s) (map (λ x. slice_get new x) row) (map (λ (x : Spot). Some x) these)
    (still_there old more new j s grown (head_is (slice_get old j) (Some s) (map (λ x. slice_get old x) row) (map (λ (x : Spot). Some x) these) is))
    (row_grown old more new row these grown (tail_is (slice_get old j) (Some s) (map (λ x. slice_get old x) row) (map (λ (x : Spot). Some x) these) is))

row_push : (found : List Spot) (row : List ℕ) (these : List Spot) (n : ℕ) (s : Spot) → IsRowOf found row these → slice_get found n ≡ Some s → IsRowOf found (row ++ n ∷ []) (these ++ s ∷ [])
row_push found [] [] n s is at = two (slice_get found n) (Some s) [] [] at refl
row_push found [] (t ∷ these) n s is at = absurd (no_cons (Some t) (map (λ (x : Spot). Some x) these) is)
row_push found (j ∷ row) [] n s is at = absurd (no_cons (slice_get found j) (map (λ x. slice_get found x) row) (sym is))
row_push found (j ∷ row) (t ∷ these) n s is at =
    two (slice_get found j) (Some t) (map (λ x. slice_get found x) (row ++ n ∷ [])) (map (λ (x : Spot). Some x) (these ++ s ∷ []))
    (head_is (slice_get found j) (Some t) (map (λ x. slice_get found x) row) (map (λ (x : Spot). Some x) these) is)
    (row_push found row these n s (tail_is (slice_get found j) (Some t) (map (λ x. slice_get found x) row) (map (λ (x : Spot). Some x) these) is) at)

pub finds_more : (mid_numbers : SpotRows) (new_numbers : SpotRows) (old mid new front these : List Spot) (s : Spot)
    → Finds mid_numbers old mid front → Finds new_numbers mid new (s ∷ []) → these ≡ front ++ s ∷ [] → Finds new_numbers old new these
finds_more mid_numbers new_numbers old mid new front these s one more are = record {
  more = one.more ++ more.more;
  grown = more.grown ∙ (ap (λ (x : List Spot). x ++ more.more) one.grown ∙ append_assoc old one.more more.more);
  numbered = more.numbered;
  from = λ i t is. subst (λ (x : List Spot). (slice_get old i ≡ Some t) ⊎ Among t x) (sym are) (elim (more.from i t is) [
    | inl before ↦ elim (one.from i t before) [
      | inl older ↦ inl older
      | inr front_has ↦ inr (among_left t front (s ∷ []) front_has)
    ]
    | inr itself ↦ inr (among_right t front (s ∷ []) itself)
  ]);
}

pub row_more : (numbers : SpotRows) (mid new : List Spot) (row now : List ℕ) (front these : List Spot) (n : ℕ) (s : Spot)
    → Finds numbers mid new (s ∷ []) → IsRowOf mid row front → slice_get new n ≡ Some s → now ≡ row ++ n ∷ [] → these ≡ front ++ s ∷ [] → IsRowOf new now these
row_more numbers mid new row now front these n s finds is at pushed are =
    subst (λ (x : List ℕ). IsRowOf new x these) (sym pushed)
    (subst (λ (x : List Spot). IsRowOf new (row ++ n ∷ []) x) (sym are) (row_push new row front n s (row_grown mid finds.more new row front finds.grown is) at))

pub row_none : (found : List Spot) (row : List ℕ) → row ≡ [] → IsRowOf found row []
row_none found row e = ap (λ (x : List ℕ). map (λ j. slice_get found j) x) e

pub take_whole : {X : Type 0} (xs : List X) (i : ℕ) → length xs ≤ i → take i xs ≡ xs
take_whole [] zero low = refl
take_whole [] (suc i) low = refl
take_whole (x ∷ xs) zero low = absurd (omega arith)
take_whole (x ∷ xs) (suc i) low = ap (λ r. x ∷ r) (take_whole xs i (omega arith))

pub take_at : {X : Type 0} (xs : List X) (i : ℕ) (x : X) → slice_get xs i ≡ Some x → take (i + 1) xs ≡ take i xs ++ x ∷ []
take_at [] i x at = absurd (cc)
take_at {X} (y ∷ xs) zero x at = ap (λ (v : X). v ∷ []) (same_some (Some y) y x refl at)
take_at (y ∷ xs) (suc i) x at = (let e : suc i + 1 ≡ suc (i + 1) = omega arith in ap (λ n. take n (y ∷ xs)) e ∙ ap (λ r. y ∷ r) (take_at xs i x at))

pub row_whole : (found : List Spot) (row : List ℕ) (these : List Spot) (i : ℕ) → length these ≤ i → IsRowOf found row (take i these) → IsRowOf found row these
row_whole found row these i end is = subst (λ (x : List Spot). IsRowOf found row x) (take_whole these i end) is

pub finds_same : (numbers : SpotRows) (old new next these : List Spot) → Finds numbers old new next → next ≡ these → Finds numbers old new these
finds_same numbers old new next these finds same = subst (λ (x : List Spot). Finds numbers old new x) same finds

pub adds_row : (found these next : List Spot) (rows longer : List (List ℕ)) (row given : List ℕ) → next ≡ these → given ≡ row → longer ≡ rows ++ given ∷ [] → IsRowOf found row next → AddsRow found these rows longer
adds_row found these next rows longer row given same given_is pushed is =
    (given, pushed, subst (λ (x : List Spot). IsRowOf found given x) same (subst (λ (x : List ℕ). IsRowOf found x next) (sym given_is) is))

pub row_has : (found : List Spot) (row : List ℕ) (these : List Spot) (s : Spot) → IsRowOf found row these → Among s these → (j : ℕ) × Among j row × (slice_get found j ≡ Some s)
row_has found [] [] s is among = absurd among
row_has found [] (t ∷ these) s is among = absurd (no_cons (Some t) (map (λ (x : Spot). Some x) these) is)
row_has found (j ∷ row) [] s is among = absurd among
row_has found (j ∷ row) (t ∷ these) s is (inl e) = (j, inl refl, head_is (slice_get found j) (Some t) (map (λ x. slice_get found x) row) (map (λ (x : Spot). Some x) these) is ∙ ap (λ x. Some x) e)
row_has found (j ∷ row) (t ∷ these) s is (inr among) =
    let (i, h, at) = row_has found row these s (tail_is (slice_get found j) (Some t) (map (λ x. slice_get found x) row) (map (λ (x : Spot). Some x) these) is) among in (i, inr h, at)

pub row_from : (found : List Spot) (row : List ℕ) (these : List Spot) (i : ℕ) → IsRowOf found row these → Among i row → (s : Spot) × Among s these × (slice_get found i ≡ Some s)
row_from found [] these i is among = absurd among
row_from found (j ∷ row) [] i is among = absurd (no_cons (slice_get found j) (map (λ x. slice_get found x) row) (sym is))
row_from found (j ∷ row) (t ∷ these) i is (inl e) =
    (t, inl refl, ap (λ x. slice_get found x) (sym e) ∙ head_is (slice_get found j) (Some t) (map (λ x. slice_get found x) row) (map (λ (x : Spot). Some x) these) is)
row_from found (j ∷ row) (t ∷ these) i is (inr among) =
    let (s, h, at) = row_from found row these i (tail_is (slice_get found j) (Some t) (map (λ x. slice_get found x) row) (map (λ (x : Spot). Some x) these) is) among in (s, inr h, at)

-- ---- the whole search

pub way_begins : (moves : Spot → List Spot) (numbers : SpotRows) (seeds found : List Spot) (row : List ℕ) (rows : List (List ℕ)) → Finds numbers [] found seeds
    → IsRowOf found row seeds → rows ≡ [] → IsUnderWay moves seeds found rows
way_begins moves numbers seeds found row rows finds is none = record {
  shown = λ i s r at there. absurd (nothing i r (ap (λ (x : List (List ℕ)). slice_get x i) (sym none) ∙ there));
  seeded = λ s among. (let (k, low, at) = row_has found row seeds s is among in (k, at));
  from = λ i s at. elim (finds.from i s at) [ inl old ↦ absurd (nothing i s old) | inr one ↦ inl one ];
} where
  nothing : {X : Type 0} (i : ℕ) (r : X) → slice_get [] i ≡ Some r → ⊥
  nothing i r e = cc

pub way_on : (moves : Spot → List Spot) (numbers : SpotRows) (seeds found new : List Spot) (row : List ℕ) (rows longer : List (List ℕ)) (s : Spot)
    → IsUnderWay moves seeds found rows → length rows < length found → slice_get found (length rows) ≡ Some s → Finds numbers found new (moves s) → longer ≡ rows ++ row ∷ []
    → IsRowOf new row (moves s) → IsUnderWay moves seeds new longer
way_on moves numbers seeds found new row rows longer s was low here finds pushed is = record {
  shown = λ i t r at there. elim (push_cases rows row r i (subst (λ (x : List (List ℕ)). slice_get x i ≡ Some r) pushed there)) [
    | inl before ↦ (let h = slice_get_within rows i r before in let under : i < length found = omega arith in
        let old : slice_get found i ≡ Some t = found_before i t under at in
        row_grown found finds.more new r (moves t) finds.grown (was.shown i t r old before))
    | inr (last, same) ↦ (let spot_is : s ≡ t = same_some (slice_get new i) s t (ap (λ x. slice_get new x) last ∙ still_there found finds.more new (length rows) s finds.grown here) at in
        subst (λ (x : List ℕ). IsRowOf new x (moves t)) same (subst (λ (x : Spot). IsRowOf new row (moves x)) spot_is is))
  ];
  seeded = λ t among. (let (i, at) = was.seeded t among in (i, still_there found finds.more new i t finds.grown at));
  from = λ i t at. elim (finds.from i t at) [ inl old ↦ was.from i t old | inr one ↦ inr (s, one) ];
} where
  found_before : (i : ℕ) (t : Spot) → i < length found → slice_get new i ≡ Some t → slice_get found i ≡ Some t
  found_before i t under at =
      let here = slice_get-get_or found i t under in
      here ∙ sym (still_there found finds.more new i _ finds.grown here) ∙ at

pub explored : (moves : Spot → List Spot) (numbers : SpotRows) (seeds found : List Spot) (rows : List (List ℕ)) (done : ℕ)
    → IsUnderWay moves seeds found rows → AreNumbered numbers found → length rows ≡ done → done ≤ length found → length found ≤ done → IsExplored moves seeds found numbers rows
explored moves numbers seeds found rows done way are count low high = record { size = omega arith; numbered = are; way = way }

-- The search is under way: it has gone on from the first few of the spots that it has found.
pub record Goes (moves : Spot → List Spot) (seeds found : List Spot) (numbers : SpotRows) (rows : List (List ℕ)) (done : ℕ) : Type 0 where
  pub way : IsUnderWay moves seeds found rows
  pub numbered : AreNumbered numbers found
  pub count : length rows ≡ done
  pub low : done ≤ length found

pub goes_first : (moves : Spot → List Spot) (seeds found none : List Spot) (numbers : SpotRows) (row : List ℕ) (rows : List (List ℕ)) → none ≡ []
    → Finds numbers none found seeds → IsRowOf found row seeds → rows ≡ [] → Goes moves seeds found numbers rows 0
goes_first moves seeds found none numbers row rows empty finds is no_rows = record {
  way = way_begins moves numbers seeds found row rows (subst (λ (x : List Spot). Finds numbers x found seeds) empty finds) is no_rows;
  numbered = finds.numbered;
  count = ap (λ (x : List (List ℕ)). length x) no_rows;
  low = omega arith;
}

pub goes_on : (moves : Spot → List Spot) (seeds found new : List Spot) (numbers : SpotRows) (more : SpotRows) (rows longer : List (List ℕ)) (done : ℕ) (s : Spot)
    → Goes moves seeds found numbers rows done → done < length found → slice_get found done ≡ Some s → Finds more found new (moves s) → AddsRow new (moves s) rows longer
    → Goes moves seeds new more longer (done + 1)
goes_on moves seeds found new numbers more rows longer done s was less here finds (row, pushed, is) = record {
  way = way_on moves more seeds found new row rows longer s was.way (let e = was.count in omega arith) (ap (λ x. slice_get found x) was.count ∙ here) finds pushed is;
  numbered = finds.numbered;
  count = ap (λ (x : List (List ℕ)). length x) pushed ∙ (let e = length-append rows (row ∷ []) in let f = was.count in omega arith);
  low = (let e = ap (λ (x : List Spot). length x) finds.grown in let f = length-append found finds.more in omega arith);
}

pub goes_all : (moves : Spot → List Spot) (seeds found : List Spot) (numbers : SpotRows) (rows : List (List ℕ)) (done : ℕ)
    → Goes moves seeds found numbers rows done → length found ≤ done → IsExplored moves seeds found numbers rows
goes_all moves seeds found numbers rows done was end = explored moves numbers seeds found rows done was.way was.numbered was.count was.low end
