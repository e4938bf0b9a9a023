-- The files of each name, one file more at a time.
use Rattle.std.proofs.Common.{◌≡◌, ℕ, zero, suc, ◌+◌, ◌<◌, ◌≤◌, inl, inr, Bool, true, false, cond, not, ◌&&◌, Some, List, [], ◌∷◌, ◌++◌, length, take, map, get_or, slice_get, slice_set, refl, ap, sym, ◌∙◌, arith, get_or-set_same, get_or-set_other}
use Rattle.std.specs.Global.{Vec}
use Rattle.std.specs.Str.{bytes_eq}
use Rattle.std.specs.List.{Contains}
use Rattle.std.proofs.lemmas.Bool.{cases_lt}
use Rattle.std.proofs.lemmas.List.{take_more, length-map, length-set, length-take-le, append-nil, map-append}
use Rattle.std.proofs.lemmas.Option.{slice_get_within, slice_get-get_or, get_or_from_slice_get}
use Rattle.std.proofs.lemmas.Slice.Eq.{bytes_eq-Decides}
use Rattle.gv_base.specs.Files.{Entry}
use Rattle.import_graph.specs.Packages.{home_of, numbers_from, is_of}
use Rattle.import_graph.specs.Tables.{AreAscending, AreRows, AreLonger, row_at}
use Rattle.import_graph.specs.declared.homes.Home.{Home}
use Rattle.import_graph.proofs.ListLemmas.{get-map}
use Rattle.import_graph.proofs.NameLemmas.{same-place, map-more}

numbers-step : {A : Type 0} (test : A → Bool) (n m : ℕ) (xs : List A) (x : A) (b : Bool) → m ≡ suc n + length xs
    → numbers_from test (suc n) (xs ++ x ∷ []) ≡ numbers_from test (suc n) xs ++ cond (test x) (m ∷ []) []
    → cond b (n ∷ numbers_from test (suc n) (xs ++ x ∷ [])) (numbers_from test (suc n) (xs ++ x ∷ [])) ≡ cond b (n ∷ numbers_from test (suc n) xs) (numbers_from test (suc n) xs) ++ cond (test x) (m ∷ []) []
numbers-step test n m xs x true e more = ap (λ t. n ∷ t) more
numbers-step test n m xs x false e more = more

one-number : (n m : ℕ) (b : Bool) → m ≡ n + 0 → cond b (n ∷ []) [] ≡ [] ++ cond b (m ∷ []) []
one-number n m true e = let f : n ≡ m = omega (arith, e) in ap (λ t. t ∷ []) f
one-number n m false e = refl

-- one item more
pub numbers-push : {A : Type 0} (test : A → Bool) (n m : ℕ) (xs : List A) (x : A) → m ≡ n + length xs
    → numbers_from test n (xs ++ x ∷ []) ≡ numbers_from test n xs ++ cond (test x) (m ∷ []) []
numbers-push test n m [] x e = one-number n m (test x) e
numbers-push test n m (y ∷ ys) x e =
    let f : m ≡ suc n + length ys = omega (arith, e) in
    numbers-step test n m ys x (test y) f (numbers-push test (suc n) m ys x f)

other-name : (stub : Bool) (name : List ℕ) (home : Home) → (home.path ≡ name → ⊥) → is_of stub name home ≡ false
other-name stub name home lacks = go home.source (cond stub home.stub (not home.stub)) (bytes_eq home.path name) (λ h. lacks ((bytes_eq-Decides home.path name).0 h))
  where
    go : (a b d : Bool) → (d ≡ true → ⊥) → (a && (b && d)) ≡ false
    go true true true f = absurd (f refl)
    go true true false f = refl
    go true false d f = refl
    go false b d f = refl

this-name : (stub : Bool) (name : List ℕ) (home : Home) → (home.source && cond stub home.stub (not home.stub)) ≡ true → home.path ≡ name → is_of stub name home ≡ true
this-name stub name home kind is = go home.source (cond stub home.stub (not home.stub)) (bytes_eq home.path name) kind ((bytes_eq-Decides home.path name).1 is)
  where
    go : (a b d : Bool) → (a && b) ≡ true → d ≡ true → (a && (b && d)) ≡ true
    go true true d h f = f
    go true false d h f = cc
    go false b d h f = cc

no-kind : (stub : Bool) (name : List ℕ) (home : Home) → (home.source && cond stub home.stub (not home.stub)) ≡ false → is_of stub name home ≡ false
no-kind stub name home kind = go home.source (cond stub home.stub (not home.stub)) (bytes_eq home.path name) kind
  where
    go : (a b d : Bool) → (a && b) ≡ false → (a && (b && d)) ≡ false
    go true true d h = cc
    go true false d h = refl
    go false b d h = refl

kept : (row : List ℕ) (n : ℕ) (b : Bool) → b ≡ false → row ≡ row ++ cond b (n ∷ []) []
kept row n b e = sym (append-nil row) ∙ ap (λ t. row ++ cond t (n ∷ []) []) (sym e)

-- a file of another kind adds nothing
pub longer-other : (stub : Bool) (home : Home) (n : ℕ) (names : List (List ℕ)) (rows : List (Vec ℕ)) → (home.source && cond stub home.stub (not home.stub)) ≡ false → AreLonger stub home n names rows rows
longer-other stub home n names rows kind = record {
  size = refl;
  each = λ k name at. kept (row_at rows k) n (is_of stub name home) (no-kind stub name home kind);
}

-- nor does one of a name that isn't there
pub longer-none : (stub : Bool) (home : Home) (n : ℕ) (names : List (List ℕ)) (rows : List (Vec ℕ)) → (Contains names home.path → ⊥) → AreLonger stub home n names rows rows
longer-none stub home n names rows lacks = record {
  size = refl;
  each = λ k name at. kept (row_at rows k) n (is_of stub name home)
      (other-name stub name home (λ h. lacks (k, slice_get_within names k name at, get_or_from_slice_get names k name home.path at ∙ sym h)));
}

-- a file of a name adds its number there
pub longer-at : (stub : Bool) (home : Home) (n : ℕ) (names : List (List ℕ)) (rows more : List (Vec ℕ)) (at : ℕ) → AreAscending names → length rows ≡ length names
    → (home.source && cond stub home.stub (not home.stub)) ≡ true → slice_get names at ≡ Some home.path
    → map (λ row. row.items) more ≡ slice_set (map (λ row. row.items) rows) at (row_at rows at ++ n ∷ []) → AreLonger stub home n names rows more
longer-at stub home n names rows more at order size kind here is = record {
  size = sym (length-map more (λ row. row.items)) ∙ ap length is ∙ length-set (map (λ row. row.items) rows) at (row_at rows at ++ n ∷ []) ∙ length-map rows (λ row. row.items);
  each = λ k name there. elim (cases_lt k at) [
    | inl low ↦ apart k name there (λ e. omega (arith, e, low))
    | inr high ↦ elim (cases_lt at k) [
      | inl above ↦ apart k name there (λ e. omega (arith, e, above))
      | inr same ↦ (let e : k ≡ at = omega (arith, high, same) in equal k name there e)
    ]
  ];
}
  where
    apart : (k : ℕ) (name : List ℕ) → slice_get names k ≡ Some name → (k ≡ at → ⊥) → row_at more k ≡ row_at rows k ++ cond (is_of stub name home) (n ∷ []) []
    apart k name there ne =
        let lacks : home.path ≡ name → ⊥ = λ h. elim (cases_lt k at) [
          | inl low ↦ same-place names k at home.path order (there ∙ ap Some (sym h)) here low
          | inr high ↦ same-place names at k home.path order here (there ∙ ap Some (sym h)) (omega (arith, high, ne))
        ] in
        ap (λ t. get_or t k []) is ∙ get_or-set_other (map (λ row. row.items) rows) at k (row_at rows at ++ n ∷ []) [] ne
        ∙ kept (row_at rows k) n (is_of stub name home) (other-name stub name home lacks)

    equal : (k : ℕ) (name : List ℕ) → slice_get names k ≡ Some name → k ≡ at → row_at more k ≡ row_at rows k ++ cond (is_of stub name home) (n ∷ []) []
    equal k name there e =
        let l : at < length (map (λ (row : Vec ℕ). row.items) rows) = (let a = slice_get_within names at home.path here in let b = length-map rows (λ row. row.items) in omega (arith, a, b, size)) in
        let h : home.path ≡ name = (let s : Some home.path ≡ Some name = sym here ∙ ap (slice_get names) (sym e) ∙ there in cc) in
        ap (λ t. get_or t k []) is ∙ ap (λ j. get_or (slice_set (map (λ row. row.items) rows) at (row_at rows at ++ n ∷ [])) j []) e
        ∙ get_or-set_same (map (λ row. row.items) rows) at (row_at rows at ++ n ∷ []) [] l
        ∙ ap (λ j. row_at rows j ++ n ∷ []) (sym e)
        ∙ ap (λ t. row_at rows k ++ cond t (n ∷ []) []) (sym (this-name stub name home kind h))

-- where one file more stands
pub homes-more : (root : List ℕ) (files : List Entry) (n : ℕ) (path bytes : List ℕ) (home : Home) (had more : List Home) → slice_get files n ≡ Some (path, bytes)
    → home ≡ home_of root (path, []) → had ≡ map (home_of root) (take n files) → more ≡ had ++ home ∷ [] → more ≡ map (home_of root) (take (n + 1) files)
homes-more root files n path bytes home had more at is before e =
    e ∙ ap (λ t. t ++ home ∷ []) before ∙ ap (λ h. map (home_of root) (take n files) ++ h ∷ []) is ∙ sym (map-more (home_of root) files n (path, bytes) at)

blank-items : (rows : List (List ℕ)) → ((k : ℕ) → get_or rows k [] ≡ []) → (k : ℕ) → get_or (rows ++ [] ∷ []) k [] ≡ []
blank-items [] empty zero = refl
blank-items [] empty (suc k) = refl
blank-items (row ∷ rows) empty zero = empty 0
blank-items (row ∷ rows) empty (suc k) = blank-items rows (λ j. empty (suc j)) k

-- one empty row more
pub blank-more : (rows more : List (Vec ℕ)) (row : Vec ℕ) → ((k : ℕ) → row_at rows k ≡ []) → row.items ≡ [] → more ≡ rows ++ row ∷ [] → (k : ℕ) → row_at more k ≡ []
blank-more rows more row empty none e k =
    ap (λ t. row_at t k) e ∙ ap (λ t. get_or t k []) (map-append (λ (r : Vec ℕ). r.items) rows (row ∷ []))
    ∙ ap (λ t. get_or (map (λ (r : Vec ℕ). r.items) rows ++ t ∷ []) k []) none ∙ blank-items (map (λ (r : Vec ℕ). r.items) rows) empty k

-- no file yet
pub no-rows : (stub : Bool) (homes : List Home) (names : List (List ℕ)) (rows : List (Vec ℕ)) → length rows ≡ length names → ((k : ℕ) → row_at rows k ≡ []) → AreRows stub [] names rows
no-rows stub homes names rows size empty = record { size = size; each = λ k name at. empty k }

-- one file more
pub rows-more : (stub : Bool) (homes : List Home) (n : ℕ) (home : Home) (names : List (List ℕ)) (rows more : List (Vec ℕ)) → n < length homes → home ≡ get_or homes n home
    → AreRows stub (take n homes) names rows → AreLonger stub home n names rows more → AreRows stub (take (n + 1) homes) names more
rows-more stub homes n home names rows more l is before longer = record {
  size = longer.size ∙ before.size;
  each = λ k name at.
      let t : take (n + 1) homes ≡ take n homes ++ home ∷ [] = take_more homes n home l ∙ ap (λ h. take n homes ++ h ∷ []) (sym is) in
      let e : n ≡ 0 + length (take n homes) = (let le : n ≤ length homes = omega (arith, l) in let s = length-take-le n homes le in omega (arith, s)) in
      longer.each k name at ∙ ap (λ row. row ++ cond (is_of stub name home) (n ∷ []) []) (before.each k name at)
      ∙ sym (numbers-push (is_of stub name) 0 n (take n homes) home e) ∙ ap (numbers_from (is_of stub name) 0) (sym t);
}

pub unnot : (b : Bool) → not b ≡ false → b ≡ true
unnot true e = refl
unnot false e = cc

pub unnot-true : (b : Bool) → not b ≡ true → b ≡ false
unnot-true true e = cc
unnot-true false e = refl

-- the row at a place is that of the list there
pub row-at-is : (rows : List (Vec ℕ)) (at : ℕ) (v : Vec ℕ) → at < length rows → v ≡ get_or rows at v → row_at rows at ≡ v.items
row-at-is rows at v l e =
    get_or_from_slice_get (map (λ (row : Vec ℕ). row.items) rows) at v.items [] (get-map (λ (row : Vec ℕ). row.items) rows at v (slice_get-get_or rows at v l ∙ ap Some (sym e)))
