-- Names by their first place in a list.
use Rattle.std.proofs.Common.{◌≡◌, ℕ, zero, suc, ◌+◌, ◌<◌, Bool, true, false, cond, if◌then◌else◌, List, [], ◌∷◌, ◌++◌, take, length, slice_get, Option, Some, None, unwrap_or, refl, sym, ap, ◌∙◌, subst, arith}
use Rattle.std.specs.List.{position_from}
use Rattle.std.specs.Str.{bytes_eq}
use Rattle.std.proofs.lemmas.List.{take_more, length-take-le}
use Rattle.std.proofs.lemmas.Option.{slice_get_within, get_or_from_slice_get}
use Rattle.go_tree.specs.Lexeme.{place_of}

abbrev joined : Bool → Option ℕ → ℕ → Option ℕ
joined b o n = if b then Some (unwrap_or o n) else o

found_first : (b : Bool) (i n : ℕ) → Some i ≡ joined b (Some i) n
found_first true i n = refl
found_first false i n = refl

push_from : {X : Type 0} (test : X → Bool) (i : ℕ) (xs : List X) (x : X) → position_from test i (xs ++ x ∷ []) ≡ joined (test x) (position_from test i xs) (i + length xs)
push_from test i [] x = by (test x) where
  by : (b : Bool) → cond b (Some i) None ≡ joined b None (i + 0)
  by true = let e : i ≡ i + 0 = omega arith in ap Some e
  by false = refl
push_from test i (y ∷ ys) x = by (test y) (push_from test (i + 1) ys x) where
  by : (b : Bool) → position_from test (i + 1) (ys ++ x ∷ []) ≡ joined (test x) (position_from test (i + 1) ys) (i + 1 + length ys)
      → cond b (Some i) (position_from test (i + 1) (ys ++ x ∷ [])) ≡ joined (test x) (cond b (Some i) (position_from test (i + 1) ys)) (i + suc (length ys))
  by true rest = found_first (test x) i (i + suc (length ys))
  by false rest = let e : i + 1 + length ys ≡ i + suc (length ys) = omega arith in rest ∙ ap (joined (test x) (position_from test (i + 1) ys)) e

-- one more item
pub position_more : {X : Type 0} (test : X → Bool) (xs : List X) (i : ℕ) (x : X) (old new : Option ℕ) → slice_get xs i ≡ Some x → old ≡ position_from test 0 (take i xs)
    → new ≡ (if test x then Some (unwrap_or old i) else old) → new ≡ position_from test 0 (take (i + 1) xs)
position_more {X} test xs i x old new read before is =
    let low = slice_get_within xs i x read in
    let size : length (take i xs) ≡ i = length-take-le i xs (omega arith) in
    let at : 0 + length (take i xs) ≡ i = omega arith in
    is ∙ (ap (λ (o : Option ℕ). joined (test x) o i) before
    ∙ (ap (joined (test x) (position_from test 0 (take i xs))) (sym at)
    ∙ (sym (push_from test 0 (take i xs) x)
    ∙ ap (λ (ys : List X). position_from test 0 ys) (sym (take_more xs i x low ∙ ap (λ (y : X). take i xs ++ y ∷ []) (get_or_from_slice_get xs i x x read))))))

-- one more name
pub index_more : (texts : List (List ℕ)) (i : ℕ) (name q : List ℕ) (old new : Option ℕ) → slice_get texts i ≡ Some name → old ≡ place_of (take i texts) q
    → new ≡ (if bytes_eq name q then Some (unwrap_or old i) else old) → new ≡ place_of (take (i + 1) texts) q
index_more texts i name q old new read before is = position_more (λ spelling. bytes_eq spelling q) texts i name old new read before is
