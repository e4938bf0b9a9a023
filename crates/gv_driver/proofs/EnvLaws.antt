-- The environment of a package by the rows of a table.
use Rattle.std.proofs.Common.{◌≡◌, ◌⊎◌, inl, inr, ℕ, ◌<◌, Bool, true, false, if◌then◌else◌, Option, Some, None, List, [], ◌∷◌, length, slice_get, replicate, refl, sym, ap, ◌∙◌, subst, arith, zero, suc}
use Rattle.std.specs.List.{Contains}
use Rattle.std.specs.Prelude.{slice_set}
use Rattle.std.specs.Str.{bytes_eq}
use Rattle.std.proofs.lemmas.Slice.Eq.{bytes_eq-Decides}
use Rattle.std.proofs.lemmas.List.{length-replicate}
use Rattle.std.proofs.lemmas.Option.{slice_get_within, same_Some}
use Rattle.gv_driver.specs.declared.node.Node.{Node}
use Rattle.gv_driver.specs.declared.tree.PackageTexts.{PackageTexts}
use Rattle.gv_driver.specs.Rows.{IsSet, with_all, with_reach, with_each, reach_in, merged, of_paths, is_among, path_in, places_below}
use Rattle.gv_driver.proofs.Places.{contains-head, contains-tail, cons-cases, nothing-contained}
use Rattle.gv_driver.proofs.RowLemmas.{all-cases, all-keeps, all-here, all-long, set-cases, set-keeps, set-here, set-long, none-set, place-set, set-place}

-- ---- what a row holds

-- q is s, or reached from it
abbrev pub IsFrom : List (Option Node) → ℕ → ℕ → Type 0
IsFrom table q s = (s ≡ q) ⊎ Contains (reach_in (slice_get table s)) q

abbrev pub IsFromOne : List (Option Node) → List ℕ → ℕ → Type 0
IsFromOne table numbers q = (s : ℕ) × Contains numbers s × IsFrom table q s

reach-cases : (table : List (Option Node)) (s : ℕ) (flags : List Bool) (q : ℕ) → IsSet (with_reach table s flags) q → IsSet flags q ⊎ IsFrom table q s
reach-cases table s flags q is = elim (all-cases (reach_in (slice_get table s)) (slice_set flags s true) q is) [
  | inr c ↦ inr (inr c)
  | inl h ↦ elim (set-cases flags s q h) [
    | inl g ↦ inl g
    | inr e ↦ inr (inl e)
  ]
]

each-cases : (table : List (Option Node)) (numbers : List ℕ) (flags : List Bool) (q : ℕ) → IsSet (with_each table numbers flags) q → IsSet flags q ⊎ IsFromOne table numbers q
each-cases table [] flags q is = inl is
each-cases table (s ∷ numbers) flags q is = elim (each-cases table numbers (with_reach table s flags) q is) [
  | inr c ↦ inr (c.0, contains-tail s c.0 numbers c.1, c.2)
  | inl h ↦ elim (reach-cases table s flags q h) [
    | inl g ↦ inl g
    | inr f ↦ inr (s, contains-head s numbers, f)
  ]
]

reach-keeps : (table : List (Option Node)) (s : ℕ) (flags : List Bool) (q : ℕ) → IsSet flags q → IsSet (with_reach table s flags) q
reach-keeps table s flags q is = all-keeps (reach_in (slice_get table s)) (slice_set flags s true) q (set-keeps flags s q is)

reach-long : (table : List (Option Node)) (s : ℕ) (flags : List Bool) → length (with_reach table s flags) ≡ length flags
reach-long table s flags = all-long (reach_in (slice_get table s)) (slice_set flags s true) ∙ set-long flags s

pub each-long : (table : List (Option Node)) (numbers : List ℕ) (flags : List Bool) → length (with_each table numbers flags) ≡ length flags
each-long table [] flags = refl
each-long table (s ∷ numbers) flags = each-long table numbers (with_reach table s flags) ∙ reach-long table s flags

reach-here : (table : List (Option Node)) (s : ℕ) (flags : List Bool) (q : ℕ) → q < length flags → IsFrom table q s → IsSet (with_reach table s flags) q
reach-here table s flags q low from = elim from [
  | inl e ↦ all-keeps (reach_in (slice_get table s)) (slice_set flags s true) q (subst (λ (n : ℕ). IsSet (slice_set flags s true) n) e (set-here flags s (omega (arith, low, e))))
  | inr c ↦ all-here (reach_in (slice_get table s)) (slice_set flags s true) q (let long : length (slice_set flags s true) ≡ length flags = set-long flags s in omega (arith, low, long)) c
]

each-keeps : (table : List (Option Node)) (numbers : List ℕ) (flags : List Bool) (q : ℕ) → IsSet flags q → IsSet (with_each table numbers flags) q
each-keeps table [] flags q is = is
each-keeps table (s ∷ numbers) flags q is = each-keeps table numbers (with_reach table s flags) q (reach-keeps table s flags q is)

each-here : (table : List (Option Node)) (numbers : List ℕ) (flags : List Bool) (q s : ℕ) → q < length flags → Contains numbers s → IsFrom table q s → IsSet (with_each table numbers flags) q
each-here table [] flags q s low c from = absurd (nothing-contained s c)
each-here table (t ∷ numbers) flags q s low c from = elim (cons-cases t s numbers c) [
  | inl e ↦ each-keeps table numbers (with_reach table t flags) q (reach-here table t flags q low (subst (λ (n : ℕ). IsFrom table q n) (sym e) from))
  | inr h ↦ each-here table numbers (with_reach table t flags) q s (let long : length (with_reach table t flags) ≡ length flags = reach-long table t flags in omega (arith, low, long)) h from
]

-- what a merged row has is one of the packages, or reached from one
pub merged-from : (table : List (Option Node)) (numbers : List ℕ) (q : ℕ) → Contains (merged table numbers) q → IsFromOne table numbers q
merged-from table numbers q c =
    let flags : List Bool = replicate (length table) false in
    elim (each-cases table numbers flags q (place-set (with_each table numbers flags) (length table) q c).1) [
      | inl none ↦ absurd (none-set (length table) q none)
      | inr h ↦ h
    ]

pub in-merged : (table : List (Option Node)) (numbers : List ℕ) (q s : ℕ) → q < length table → Contains numbers s → IsFrom table q s → Contains (merged table numbers) q
in-merged table numbers q s low c from =
    let flags : List Bool = replicate (length table) false in
    let long : length flags ≡ length table = length-replicate (length table) false in
    set-place (with_each table numbers flags) (length table) q low (each-here table numbers flags q s (omega (arith, low, long)) c from)

-- ---- packages of some paths

pub among : (paths : List (List ℕ)) (path : List ℕ) → is_among paths path ≡ true → Contains paths path
among [] path is = cc
among (x ∷ paths) path is = by (bytes_eq x path) refl (among paths path) is
  where
    by : (b : Bool) → bytes_eq x path ≡ b → (is_among paths path ≡ true → Contains paths path) → (if b then true else is_among paths path) ≡ true → Contains (x ∷ paths) path
    by true e rest h = subst (λ (y : List ℕ). Contains (x ∷ paths) y) ((bytes_eq-Decides x path).0 e) (contains-head x paths)
    by false e rest h = contains-tail x path paths (rest h)

text-cases : (x y : List ℕ) (xs : List (List ℕ)) → Contains (x ∷ xs) y → (x ≡ y) ⊎ Contains xs y
text-cases x y xs (zero, l, c) = inl c
text-cases x y xs (suc k, l, c) = inr (k, (let m : suc k < length (x ∷ xs) = l in omega arith), c)

no-text : (y : List ℕ) → Contains [] y → ⊥
no-text y c = let l : c.0 < 0 = c.1 in omega arith

pub is-among : (paths : List (List ℕ)) (path : List ℕ) → Contains paths path → is_among paths path ≡ true
is-among [] path c = absurd (no-text path c)
is-among (x ∷ paths) path c = by (bytes_eq x path) refl (is-among paths path)
  where
    by : (b : Bool) → bytes_eq x path ≡ b → (Contains paths path → is_among paths path ≡ true) → (if b then true else is_among paths path) ≡ true
    by true e rest = refl
    by false e rest = elim (text-cases x path paths c) [
      | inl same ↦ (let yes_it : bytes_eq x path ≡ true = (bytes_eq-Decides x path).1 same in absurd cc)
      | inr h ↦ rest h
    ]

pub of-paths : (tree : List PackageTexts) (paths : List (List ℕ)) (numbers : List ℕ) (q : ℕ) → Contains (of_paths tree paths numbers) q → Contains numbers q × Contains paths (path_in (slice_get tree q))
of-paths tree paths [] q c = absurd (nothing-contained q c)
of-paths tree paths (s ∷ numbers) q c = by (is_among paths (path_in (slice_get tree s))) refl (of-paths tree paths numbers q) c
  where
    by : (b : Bool) → is_among paths (path_in (slice_get tree s)) ≡ b → (Contains (of_paths tree paths numbers) q → Contains numbers q × Contains paths (path_in (slice_get tree q)))
        → Contains (if b then s ∷ of_paths tree paths numbers else of_paths tree paths numbers) q → Contains (s ∷ numbers) q × Contains paths (path_in (slice_get tree q))
    by true e more h = elim (cons-cases s q (of_paths tree paths numbers) h) [
      | inl same ↦ subst (λ (n : ℕ). Contains (s ∷ numbers) n × Contains paths (path_in (slice_get tree n))) same (contains-head s numbers, among paths (path_in (slice_get tree s)) e)
      | inr g ↦ (let rest = more g in (contains-tail s q numbers rest.0, rest.1))
    ]
    by false e more h = let rest = more h in (contains-tail s q numbers rest.0, rest.1)

pub in-paths : (tree : List PackageTexts) (paths : List (List ℕ)) (numbers : List ℕ) (q : ℕ) → Contains numbers q → Contains paths (path_in (slice_get tree q)) → Contains (of_paths tree paths numbers) q
in-paths tree paths [] q c p = absurd (nothing-contained q c)
in-paths tree paths (s ∷ numbers) q c p = by (is_among paths (path_in (slice_get tree s))) refl (λ h. in-paths tree paths numbers q h p)
  where
    by : (b : Bool) → is_among paths (path_in (slice_get tree s)) ≡ b → (Contains numbers q → Contains (of_paths tree paths numbers) q) → Contains (if b then s ∷ of_paths tree paths numbers else of_paths tree paths numbers) q
    by true e rest = elim (cons-cases s q numbers c) [
      | inl same ↦ subst (λ (n : ℕ). Contains (s ∷ of_paths tree paths numbers) n) same (contains-head s (of_paths tree paths numbers))
      | inr h ↦ contains-tail s q (of_paths tree paths numbers) (rest h)
    ]
    by false e rest = elim (cons-cases s q numbers c) [
      | inl same ↦ (let yes_it : is_among paths (path_in (slice_get tree s)) ≡ true = is-among paths (path_in (slice_get tree s)) (subst (λ (n : ℕ). Contains paths (path_in (slice_get tree n))) (sym same) p) in absurd cc)
      | inr h ↦ rest h
    ]

-- flags that were blank and then set have the table's length
pub flags-long : (table : List (Option Node)) (numbers : List ℕ) (blank now : List Bool) (size : ℕ) → blank ≡ replicate size false → size ≡ length table → now ≡ with_each table numbers blank → length now ≡ length table
flags-long table numbers blank now size is same set =
    ap (λ (l : List Bool). length l) set ∙ (each-long table numbers blank ∙ (ap (λ (l : List Bool). length l) is ∙ (length-replicate size false ∙ same)))

pub row-is : (table : List (Option Node)) (numbers : List ℕ) (blank now : List Bool) (size : ℕ) (list row : List ℕ) → blank ≡ replicate size false → size ≡ length table → now ≡ with_each table numbers blank
    → list ≡ places_below now (length now) → row ≡ list → row ≡ merged table numbers
row-is table numbers blank now size list row is same set places made =
    let long : length now ≡ length table = flags-long table numbers blank now size is same set in
    let flags : now ≡ with_each table numbers (replicate (length table) false) = set ∙ ap (λ (l : List Bool). with_each table numbers l) (is ∙ ap (λ (n : ℕ). replicate n false) same) in
    made ∙ (places ∙ (ap (λ (n : ℕ). places_below now n) long ∙ ap (λ (l : List Bool). places_below l (length table)) flags))
