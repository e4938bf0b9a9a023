-- How a search goes on.
use Rattle.std.proofs.Common.{◌≡◌, ◌⊎◌, inl, inr, ◌<◌, ◌≤◌, ◌+◌, ◌-◌, ◌↔◌, ℕ, zero, suc, Bool, true, false, IsTrue, not, List, [], ◌∷◌, ◌++◌, length, get_or, take, refl, sym, ap, ◌∙◌, subst, arith, cond}
use Rattle.std.specs.Prelude.{nat_eq, Option}
use Rattle.std.specs.List.{Contains}
use Rattle.std.proofs.lemmas.Bool.{eqb-true, eq-eqb}
use Rattle.std.proofs.lemmas.List.{length-append}
use Rattle.std.proofs.lemmas.List.Elements.{Contains-push, Contains-push_cases, Contains-append_left, Contains-append_right, Contains-append_cases}
use Rattle.std.proofs.Math.Seq.{take-suc}
use Rattle.go_tree.specs.declared.tree.FileTree.{FileTree}
use Rattle.flow.specs.Edges.{before}
use Rattle.flow.specs.Flow.{Reached, Flow, NeverReturns, is_stopped, is_exit}
use Rattle.flow.specs.Flow.Reached.{here, further}
use Rattle.flow.specs.Search.{row_at, IsGraph, targets_from, FlowBy, NeverBy, IsVisited, unseen, all_unseen, IsFollowed, IsSearch}
use Rattle.flow.proofs.AroundLemmas.{either}

pub no_truth : {C : Type 0} → false ≡ true → C
no_truth e = absurd cc

pub by_bool : {C : Type 0} (b : Bool) → (b ≡ true → C) → (b ≡ false → C) → C
by_bool true f g = f refl
by_bool false f g = g refl

same_nat : (m n : ℕ) → nat_eq m n ≡ true → m ≡ n
same_nat m n e = eqb-true m n e

self_nat : (n : ℕ) → nat_eq n n ≡ true
self_nat n = eq-eqb n n refl

taken : {A : Type 0} (b : Bool) (u v : A) → b ≡ true → cond b u v ≡ u
taken true u v e = refl
taken false u v e = no_truth e

left_out : {A : Type 0} (b : Bool) (u v : A) → b ≡ false → cond b u v ≡ v
left_out true u v e = no_truth (sym e)
left_out false u v e = refl

or_before : (b c : Bool) → cond b true c ≡ true → (b ≡ true) ⊎ (c ≡ true)
or_before true c e = inl refl
or_before false c e = inr e

or_kept : (b c : Bool) → c ≡ true → cond b true c ≡ true
or_kept true c e = refl
or_kept false c e = e

-- the marks that a visit leaves
pub visit_kept : (at : ℕ) (seen new : ℕ → Bool) (found newer : List ℕ) → IsVisited at seen found new newer → (q : ℕ) → seen q ≡ true → new q ≡ true
visit_kept at seen new found newer v q is = by_bool (seen at)
    (λ old. v.seen_same old q ∙ is)
    (λ fresh. v.seen_more fresh q ∙ or_kept (nat_eq at q) (seen q) is)

pub visit_marks : (at : ℕ) (seen new : ℕ → Bool) (found newer : List ℕ) → IsVisited at seen found new newer → new at ≡ true
visit_marks at seen new found newer v = by_bool (seen at)
    (λ old. v.seen_same old at ∙ old)
    (λ fresh. v.seen_more fresh at ∙ taken (nat_eq at at) true (seen at) (self_nat at))

not_true : (b c : Bool) → b ≡ true → b ≡ not c → c ≡ false
not_true b true is e = no_truth (sym e ∙ is)
not_true b false is e = refl

not_false : (b c : Bool) → b ≡ false → b ≡ not c → c ≡ true
not_false b true is e = refl
not_false b false is e = no_truth (sym is ∙ e)

-- a point is marked, and listed since it wasn't marked
pub visited_new : (at : ℕ) (added : Bool) (seen new : ℕ → Bool) (found newer : List ℕ) → added ≡ true → added ≡ not (seen at)
    → ((q : ℕ) → new q ≡ cond (nat_eq at q) true (seen q)) → newer ≡ found ++ at ∷ [] → IsVisited at seen found new newer
visited_new at added seen new found newer is e marks lists = let fresh = not_true added (seen at) is e in record {
  seen_same = λ old. no_truth (sym fresh ∙ old);
  found_same = λ old. no_truth (sym fresh ∙ old);
  seen_more = λ out. marks;
  found_more = λ out. lists;
}

-- a point that was marked is marked again
pub visited_old : (at : ℕ) (added : Bool) (seen new : ℕ → Bool) (found : List ℕ) → added ≡ false → added ≡ not (seen at)
    → ((q : ℕ) → new q ≡ cond (nat_eq at q) true (seen q)) → IsVisited at seen found new found
visited_old at added seen new found is e marks = let old = not_false added (seen at) is e in record {
  seen_same = λ same q. marks q ∙ by_bool (nat_eq at q)
      (λ here. taken (nat_eq at q) true (seen q) here ∙ (sym old ∙ ap seen (same_nat at q here)))
      (λ apart. left_out (nat_eq at q) true (seen q) apart);
  found_same = λ same. refl;
  seen_more = λ out. no_truth (sym out ∙ old);
  found_more = λ out. no_truth (sym out ∙ old);
}

unseen_less : (seen new : ℕ → Bool) → ((q : ℕ) → seen q ≡ true → new q ≡ true) → (ts : List ℕ) → unseen new ts ≤ unseen seen ts
unseen_less seen new kept [] = omega arith
unseen_less seen new kept (t ∷ ts) =
    let rest = unseen_less seen new kept ts in
    by_bool (seen t)
    (λ is. rw (taken (seen t) (unseen seen ts) (suc (unseen seen ts)) is) (rw (taken (new t) (unseen new ts) (suc (unseen new ts)) (kept t is)) rest))
    (λ out. rw (left_out (seen t) (unseen seen ts) (suc (unseen seen ts)) out)
    (by_bool (new t)
    (λ is. rw (taken (new t) (unseen new ts) (suc (unseen new ts)) is) (omega arith))
    (λ no_mark. rw (left_out (new t) (unseen new ts) (suc (unseen new ts)) no_mark) (omega arith))))

unseen_spent : (seen new : ℕ → Bool) → ((q : ℕ) → seen q ≡ true → new q ≡ true) → (ts : List ℕ) (at : ℕ) → Contains ts at → seen at ≡ false → new at ≡ true
    → suc (unseen new ts) ≤ unseen seen ts
unseen_spent seen new kept [] at c out is = absurd (omega (arith, c.1))
unseen_spent seen new kept (t ∷ ts) at (zero, lt, e) out is =
    let rest = unseen_less seen new kept ts in
    rw (left_out (seen t) (unseen seen ts) (suc (unseen seen ts)) (ap seen e ∙ out))
    (rw (taken (new t) (unseen new ts) (suc (unseen new ts)) (ap new e ∙ is)) (omega arith))
unseen_spent seen new kept (t ∷ ts) at (suc k, lt, e) out is =
    let rest = unseen_spent seen new kept ts at (k, omega (arith, lt), e) out is in
    by_bool (seen t)
    (λ old. rw (taken (seen t) (unseen seen ts) (suc (unseen seen ts)) old) (rw (taken (new t) (unseen new ts) (suc (unseen new ts)) (kept t old)) rest))
    (λ fresh. rw (left_out (seen t) (unseen seen ts) (suc (unseen seen ts)) fresh)
    (by_bool (new t)
    (λ marked. rw (taken (new t) (unseen new ts) (suc (unseen new ts)) marked) (omega arith))
    (λ no_mark. rw (left_out (new t) (unseen new ts) (suc (unseen new ts)) no_mark) (omega arith))))

all_less : (seen new : ℕ → Bool) → ((q : ℕ) → seen q ≡ true → new q ≡ true) → (rows : List (List ℕ)) → all_unseen new rows ≤ all_unseen seen rows
all_less seen new kept [] = omega arith
all_less seen new kept (row ∷ rows) =
    let first = unseen_less seen new kept row in
    let rest = all_less seen new kept rows in
    omega arith

all_spent : (seen new : ℕ → Bool) → ((q : ℕ) → seen q ≡ true → new q ≡ true) → (rows : List (List ℕ)) (p at : ℕ) → Contains (row_at rows p) at → seen at ≡ false → new at ≡ true
    → suc (all_unseen new rows) ≤ all_unseen seen rows
all_spent seen new kept [] p at c out is = absurd (omega (arith, c.1))
all_spent seen new kept (row ∷ rows) zero at c out is =
    let first = unseen_spent seen new kept row at c out is in
    let rest = all_less seen new kept rows in
    omega arith
all_spent seen new kept (row ∷ rows) (suc p) at c out is =
    let first = unseen_less seen new kept row in
    let rest = all_spent seen new kept rows p at c out is in
    omega arith

append_none : (xs : List ℕ) → xs ≡ xs ++ []
append_none [] = refl
append_none (x ∷ xs) = ap (λ l. x ∷ l) (append_none xs)

append_turn : (xs ys zs : List ℕ) → (xs ++ ys) ++ zs ≡ xs ++ (ys ++ zs)
append_turn [] ys zs = refl
append_turn (x ∷ xs) ys zs = ap (λ l. x ∷ l) (append_turn xs ys zs)

-- no target was visited
pub none_followed : (rows : List (List ℕ)) (seen : ℕ → Bool) (found : List ℕ) → IsFollowed rows [] seen found seen found
none_followed rows seen found = record {
  kept = λ q is. is;
  each = λ q c. absurd (omega (arith, c.1));
  more = [];
  is = append_none found;
  from = λ q c. c;
  marked = λ q c. absurd (omega (arith, c.1));
  listed = λ q is. inl is;
  spent = omega arith;
}

-- one target more, that was marked already
followed_old : (rows : List (List ℕ)) (targets : List ℕ) (t : ℕ) (seen : ℕ → Bool) (found : List ℕ) (seen1 : ℕ → Bool) (found1 : List ℕ) (seen2 : ℕ → Bool) (found2 : List ℕ)
    → IsFollowed rows targets seen found seen1 found1 → IsVisited t seen1 found1 seen2 found2 → seen1 t ≡ true
    → IsFollowed rows (targets ++ t ∷ []) seen found seen2 found2
followed_old rows targets t seen found seen1 found1 seen2 found2 f v old =
    let kept = visit_kept t seen1 seen2 found1 found2 v in
    let less = all_less seen1 seen2 kept rows in
    let spent = f.spent in
    record {
      kept = λ q is. kept q (f.kept q is);
      each = λ q c. either (Contains-push_cases targets t q c) (λ was. kept q (f.each q was)) (λ e. subst (λ k. seen2 k ≡ true) e (visit_marks t seen1 seen2 found1 found2 v));
      more = f.more;
      is = v.found_same old ∙ f.is;
      from = λ q c. Contains-append_left targets (t ∷ []) q (f.from q c);
      marked = λ q c. kept q (f.marked q c);
      listed = λ q is. f.listed q (sym (v.seen_same old q) ∙ is);
      spent = omega arith;
    }

-- one target more, that is marked and listed now
followed_new : (rows : List (List ℕ)) (p : ℕ) (targets : List ℕ) (t : ℕ) (seen : ℕ → Bool) (found : List ℕ) (seen1 : ℕ → Bool) (found1 : List ℕ) (seen2 : ℕ → Bool) (found2 : List ℕ)
    → Contains (row_at rows p) t
    → IsFollowed rows targets seen found seen1 found1 → IsVisited t seen1 found1 seen2 found2 → seen1 t ≡ false
    → IsFollowed rows (targets ++ t ∷ []) seen found seen2 found2
followed_new rows p targets t seen found seen1 found1 seen2 found2 there f v fresh =
    let kept = visit_kept t seen1 seen2 found1 found2 v in
    let marks = visit_marks t seen1 seen2 found1 found2 v in
    let less = all_spent seen1 seen2 kept rows p t there fresh marks in
    let spent = f.spent in
    let size = length-append f.more (t ∷ []) in
    record {
      kept = λ q is. kept q (f.kept q is);
      each = λ q c. either (Contains-push_cases targets t q c) (λ was. kept q (f.each q was)) (λ e. subst (λ k. seen2 k ≡ true) e marks);
      more = f.more ++ t ∷ [];
      is = v.found_more fresh ∙ (ap (λ l. l ++ t ∷ []) f.is ∙ append_turn found f.more (t ∷ []));
      from = λ q c. either (Contains-push_cases f.more t q c) (λ was. Contains-append_left targets (t ∷ []) q (f.from q was)) (λ e. subst (Contains (targets ++ t ∷ [])) e (Contains-push targets t));
      marked = λ q c. either (Contains-push_cases f.more t q c) (λ was. kept q (f.marked q was)) (λ e. subst (λ k. seen2 k ≡ true) e marks);
      listed = λ q is. either (or_before (nat_eq t q) (seen1 q) (sym (v.seen_more fresh q) ∙ is))
          (λ e. inr (subst (Contains (f.more ++ t ∷ [])) (same_nat t q e) (Contains-push f.more t)))
          (λ was. either (f.listed q was) (λ old. inl old) (λ m. inr (Contains-append_left f.more (t ∷ []) q m)));
      spent = omega arith;
    }

get_there : (xs : List ℕ) (i d : ℕ) → i < length xs → Contains xs (get_or xs i d)
get_there [] i d lt = absurd (omega (arith, lt))
get_there (x ∷ xs) zero d lt = (0, omega arith, refl)
get_there (x ∷ xs) (suc i) d lt = let c = get_there xs i d (omega arith) in (suc c.0, omega (arith, c.1), c.2)

pub followed_more : (rows : List (List ℕ)) (p : ℕ) (targets : List ℕ) (i d : ℕ) (seen : ℕ → Bool) (found : List ℕ) (seen1 : ℕ → Bool) (found1 : List ℕ) (seen2 : ℕ → Bool) (found2 : List ℕ)
    → targets ≡ row_at rows p → i < length targets
    → IsFollowed rows (take i targets) seen found seen1 found1 → IsVisited (get_or targets i d) seen1 found1 seen2 found2
    → IsFollowed rows (take (i + 1) targets) seen found seen2 found2
followed_more rows p targets i d seen found seen1 found1 seen2 found2 is lt f v =
    let t = get_or targets i d in
    let next : suc i ≡ i + 1 = omega arith in
    let more : take (i + 1) targets ≡ take i targets ++ t ∷ [] = ap (λ k. take k targets) (sym next) ∙ take-suc targets i d lt in
    let there : Contains (row_at rows p) t = subst (λ l. Contains l t) is (get_there targets i d lt) in
    rw more (by_bool (seen1 t)
    (λ old. followed_old rows (take i targets) t seen found seen1 found1 seen2 found2 f v old)
    (λ fresh. followed_new rows p (take i targets) t seen found seen1 found1 seen2 found2 there f v fresh))

-- past the rows there are no targets
pub no_row : (rows : List (List ℕ)) (p : ℕ) → length rows ≤ p → row_at rows p ≡ []
no_row [] p le = refl
no_row (row ∷ rows) zero le = absurd (omega (arith, le))
no_row (row ∷ rows) (suc p) le = no_row rows p (omega arith)

pub row_read : (rows : List (List ℕ)) (at : ℕ) (row : List ℕ) → at < length rows → row ≡ get_or rows at row → row ≡ row_at rows at
row_read [] at row lt is = absurd (omega (arith, lt))
row_read (x ∷ rows) zero row lt is = is
row_read (x ∷ rows) (suc at) row lt is = row_read rows at row (omega arith) is

-- at the beginning one point is marked and listed
pub started : (targets : ℕ → List ℕ) (start : ℕ) (seen : ℕ → Bool) (found : List ℕ) (seen1 : ℕ → Bool) (found1 : List ℕ)
    → ((q : ℕ) → seen q ≡ false) → found ≡ [] → IsVisited start seen found seen1 found1 → IsSearch targets start seen1 found1 0
started targets start seen found seen1 found1 none empty v =
    let list : found1 ≡ start ∷ [] = v.found_more (none start) ∙ ap (λ l. l ++ start ∷ []) empty in
    let first : Contains found1 start = subst (λ l. Contains l start) (sym list) (0, omega arith, refl) in
    let only : (q : ℕ) → Contains found1 q → start ≡ q =
    λ q c. either (Contains-push_cases [] start q (subst (λ l. Contains l q) list c)) (λ nothing. absurd (omega (arith, nothing.1))) (λ e. e) in
    record {
      begun = visit_marks start seen seen1 found found1 v;
      listed = λ q is. either (or_before (nat_eq start q) (seen q) (sym (v.seen_more (none start) q) ∙ is))
          (λ e. subst (Contains found1) (same_nat start q e) first)
          (λ old. no_truth (sym (none q) ∙ old));
      marked = λ q c. subst (λ k. seen1 k ≡ true) (only q c) (visit_marks start seen seen1 found found1 v);
      sound = λ q c. subst (λ k. Reached (λ p r. Contains (targets p) r) start k) (only q c) here;
      settled = λ k q lt low c. absurd (omega (arith, lt));
    }

get_left : (xs ys : List ℕ) (k : ℕ) → k < length xs → get_or (xs ++ ys) k 0 ≡ get_or xs k 0
get_left [] ys k lt = absurd (omega (arith, lt))
get_left (x ∷ xs) ys zero lt = refl
get_left (x ∷ xs) ys (suc k) lt = get_left xs ys k (omega arith)

-- the targets of the next point are visited
pub search_more : (rows : List (List ℕ)) (targets : ℕ → List ℕ) (start : ℕ) (seen : ℕ → Bool) (found : List ℕ) (next at : ℕ) (seen1 : ℕ → Bool) (found1 : List ℕ)
    → IsSearch targets start seen found next → next < length found → at ≡ get_or found next 0
    → IsFollowed rows (targets at) seen found seen1 found1 → IsSearch targets start seen1 found1 (next + 1)
search_more rows targets start seen found next at seen1 found1 s lt is f =
    let in_found : Contains found at = subst (Contains found) (sym is) (get_there found next 0 lt) in
    let older : (q : ℕ) → Contains found q → Contains found1 q = λ q c. subst (λ l. Contains l q) (sym f.is) (Contains-append_left found f.more q c) in
    let newer : (q : ℕ) → Contains f.more q → Contains found1 q = λ q c. subst (λ l. Contains l q) (sym f.is) (Contains-append_right found f.more q c) in
    record {
      begun = f.kept start s.begun;
      listed = λ q marked. either (f.listed q marked) (λ old. older q (s.listed q old)) (λ m. newer q m);
      marked = λ q c. either (Contains-append_cases found f.more q (subst (λ l. Contains l q) f.is c)) (λ old. f.kept q (s.marked q old)) (λ m. f.marked q m);
      sound = λ q c. either (Contains-append_cases found f.more q (subst (λ l. Contains l q) f.is c))
          (λ old. s.sound q old)
          (λ m. further (s.sound at in_found) (f.from q m));
      settled = λ k q low within c.
          let low_found : k < length found = omega arith in
          let same : get_or found1 k 0 ≡ get_or found k 0 = ap (λ l. get_or l k 0) f.is ∙ get_left found f.more k low_found in
          let from_k : Contains (targets (get_or found k 0)) q = subst (λ p. Contains (targets p) q) same c in
          either (at_or_before k next (omega arith))
          (λ e. f.each q (subst (λ p. Contains (targets p) q) (ap (λ j. get_or found j 0) e ∙ sym is) from_k))
          (λ earlier. f.kept q (s.settled k q earlier low_found from_k));
    }
  where
    at_or_before : (k n : ℕ) → k < suc n → (k ≡ n) ⊎ (k < n)
    at_or_before zero zero le = inl refl
    at_or_before zero (suc n) le = inr (omega arith)
    at_or_before (suc k) zero le = absurd (omega (arith, le))
    at_or_before (suc k) (suc n) le = either (at_or_before k n (omega arith)) (λ e. inl (ap suc e)) (λ lt. inr (omega arith))

pub less_to_do : (rows : List (List ℕ)) (targets : List ℕ) (seen : ℕ → Bool) (found : List ℕ) (next : ℕ) (seen1 : ℕ → Bool) (found1 : List ℕ)
    → next < length found → IsFollowed rows targets seen found seen1 found1
    → all_unseen seen1 rows + length found1 - (next + 1) < all_unseen seen rows + length found - next
less_to_do rows targets seen found next seen1 found1 lt f =
    let size : length found1 ≡ length found + length f.more = ap length f.is ∙ length-append found f.more in
    let spent = f.spent in
    omega arith

-- when all that is listed was followed, what is reached is marked
pub all_marked : (targets : ℕ → List ℕ) (start : ℕ) (seen : ℕ → Bool) (found : List ℕ) (next : ℕ) → IsSearch targets start seen found next → length found ≤ next
    → {q : ℕ} → Reached (λ p r. Contains (targets p) r) start q → seen q ≡ true
all_marked targets start seen found next s end here = s.begun
all_marked targets start seen found next s end (further {p = p} {q = q} r to) =
    let c = s.listed p (all_marked targets start seen found next s end r) in
    let low = c.1 in
    s.settled c.0 q (omega arith) c.1 (subst (λ k. Contains (targets k) q) (sym (default_same found c.0 0 p c.1 ∙ c.2)) to)
  where
    default_same : (xs : List ℕ) (i d e : ℕ) → i < length xs → get_or xs i d ≡ get_or xs i e
    default_same [] i d e lt = absurd (omega (arith, lt))
    default_same (x ∷ xs) zero d e lt = refl
    default_same (x ∷ xs) (suc i) d e lt = default_same xs i d e (omega arith)

pub reached_so : (S T : ℕ → ℕ → Type 0) (start : ℕ) → ((p q : ℕ) → S p q → T p q) → {q : ℕ} → Reached S start q → Reached T start q
reached_so S T start h here = here
reached_so S T start h (further {p = p} {q = q} r s) = further (reached_so S T start h r) (h p q s)

pub stops_or : (rows : List (List ℕ)) (stops : ℕ → Bool) (p q : ℕ) → Contains (targets_from rows stops p) q → (is_stopped stops p ≡ false) × Contains (row_at rows p) q
stops_or rows stops p q c = by_bool (is_stopped stops p)
    (λ is. absurd (let nothing = subst (λ l. Contains l q) (taken (is_stopped stops p) [] (row_at rows p) is) c in omega (arith, nothing.1)))
    (λ goes. (goes, subst (λ l. Contains l q) (left_out (is_stopped stops p) [] (row_at rows p) goes) c))

-- the targets of a graph's points are where control may pass
pub flow_by : (tree : FileTree) (labels : List (Option ℕ)) (stops : ℕ → Bool) (rows : List (List ℕ)) → IsGraph tree labels rows → (p q : ℕ)
    → Contains (targets_from rows stops p) q → Flow tree labels stops p q
flow_by tree labels stops rows graph p q c = let s = stops_or rows stops p q c in (s.0, (graph p q).0 s.1)

pub target_by : (tree : FileTree) (labels : List (Option ℕ)) (stops : ℕ → Bool) (rows : List (List ℕ)) → IsGraph tree labels rows → (p q : ℕ)
    → Flow tree labels stops p q → Contains (targets_from rows stops p) q
target_by tree labels stops rows graph p q f =
    subst (λ l. Contains l q) (sym (left_out (is_stopped stops p) [] (row_at rows p) f.0)) ((graph p q).1 f.1)

-- what a search decides
pub decided : (tree : FileTree) (labels : List (Option ℕ)) (stops : ℕ → Bool) (rows : List (List ℕ)) (body : ℕ) (found : List ℕ) (start : ℕ) (some : Bool)
    → IsGraph tree labels rows → start ≡ before body
    → ((q : ℕ) → Contains found q ↔ Reached (λ p r. Contains (targets_from rows stops p) r) start q)
    → ((some ≡ true) ↔ ((p : ℕ) × Contains found p × (is_exit tree body p ≡ true)))
    → IsTrue (not some) ↔ NeverReturns tree labels stops body
decided tree labels stops rows body found start true graph at marked is = (
  λ t. no_truth t,
  λ never. absurd (let w = is.0 refl in never w.0 w.2
      (subst (λ k. Reached (Flow tree labels stops) k w.0) at
      (reached_so (λ p r. Contains (targets_from rows stops p) r) (Flow tree labels stops) start (flow_by tree labels stops rows graph) ((marked w.0).0 w.1)))),
)
decided tree labels stops rows body found start false graph at marked is = (
  λ t p exit r. no_truth (is.1 (
    p,
    (marked p).1 (reached_so (Flow tree labels stops) (λ p r. Contains (targets_from rows stops p) r) start (target_by tree labels stops rows graph)
        (subst (λ k. Reached (Flow tree labels stops) k p) (sym at) r)),
    exit,
  )),
  λ never. refl,
)

pub to_target : (rows : List (List ℕ)) (stops : ℕ → Bool) (p q : ℕ) → FlowBy rows stops p q → Contains (targets_from rows stops p) q
to_target rows stops p q f = subst (λ l. Contains l q) (sym (left_out (is_stopped stops p) [] (row_at rows p) f.0)) f.1

-- what a search decides, by the rows alone
pub decided_by : (tree : FileTree) (stops : ℕ → Bool) (rows : List (List ℕ)) (body : ℕ) (found : List ℕ) (start : ℕ) (some : Bool) → start ≡ before body
    → ((q : ℕ) → Contains found q ↔ Reached (λ p r. Contains (targets_from rows stops p) r) start q)
    → ((some ≡ true) ↔ ((p : ℕ) × Contains found p × (is_exit tree body p ≡ true)))
    → IsTrue (not some) ↔ NeverBy tree rows stops body
decided_by tree stops rows body found start true at marked is = (
  λ t. no_truth t,
  λ never. absurd (let w = is.0 refl in never w.0 w.2
      (subst (λ k. Reached (FlowBy rows stops) k w.0) at
      (reached_so (λ p r. Contains (targets_from rows stops p) r) (FlowBy rows stops) start (stops_or rows stops) ((marked w.0).0 w.1)))),
)
decided_by tree stops rows body found start false at marked is = (
  λ t p exit r. no_truth (is.1 (
    p,
    (marked p).1 (reached_so (FlowBy rows stops) (λ p r. Contains (targets_from rows stops p) r) start (to_target rows stops)
        (subst (λ k. Reached (FlowBy rows stops) k p) (sym at) r)),
    exit,
  )),
  λ never. refl,
)
