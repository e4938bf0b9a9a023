-- Places of names, one import more at a time.
use Rattle.std.proofs.Common.{◌≡◌, ℕ, ◌⊎◌, inl, inr, Bool, true, false, ◌||◌, Some, List, [], ◌∷◌, ◌++◌, slice_get, refl, ap, sym, ◌∙◌, subst, arith, append_assoc}
use Rattle.std.specs.Str.{bytes_eq}
use Rattle.std.specs.List.{Contains, list_any}
use Rattle.std.proofs.lemmas.Bool.{cases_lt}
use Rattle.std.proofs.lemmas.List.{append-nil}
use Rattle.std.proofs.lemmas.List.Elements.{Contains-append_left, Contains-push, Contains-push_cases}
use Rattle.std.proofs.lemmas.Option.{slice_get_within, get_or_from_slice_get}
use Rattle.std.proofs.lemmas.Slice.Eq.{bytes_eq-Decides}
use Rattle.go_tree.specs.declared.head.ImportLine.{ImportLine}
use Rattle.import_graph.specs.Tables.{AreAscending, AreFound, FindsMore}
use Rattle.import_graph.proofs.NameLemmas.{same-place}

-- some item of two lists passes where one of either does
pub any-append : {A : Type 0} (p : A → Bool) (xs ys : List A) → list_any p (xs ++ ys) ≡ (list_any p xs || list_any p ys)
any-append p [] ys = refl
any-append p (x ∷ xs) ys = ap (λ t. p x || t) (any-append p xs ys) ∙ regroup (p x) (list_any p xs) (list_any p ys)
  where
    regroup : (a b c : Bool) → (a || (b || c)) ≡ ((a || b) || c)
    regroup true b c = refl
    regroup false b c = refl

or-left : (a b : Bool) → a ≡ true → (a || b) ≡ true
or-left true b e = refl
or-left false b e = cc

or-right : (a b : Bool) → b ≡ true → (a || b) ≡ true
or-right true b e = refl
or-right false b e = e

or-cases : (a b : Bool) → (a || b) ≡ true → (a ≡ true) ⊎ (b ≡ true)
or-cases true b e = inl refl
or-cases false b e = inr e

Named : List ℕ → ImportLine → Bool
Named name line = bytes_eq line.path name

-- an import that leads to a name
pub finds-at : (names : List (List ℕ)) (line : ImportLine) (found : List ℕ) (at : ℕ) → AreAscending names → slice_get names at ≡ Some line.path → FindsMore names (line ∷ []) found (found ++ at ∷ [])
finds-at names line found at order here before is = record {
  into = λ k has. elim (Contains-push_cases found at k has) [
    | inl h ↦ (let r = is.into k h in (r.0, r.1, any-append (λ l. bytes_eq l.path r.0) before (line ∷ []) ∙ or-left (list_any (λ l. bytes_eq l.path r.0) before) (list_any (λ l. bytes_eq l.path r.0) (line ∷ [])) r.2))
    | inr h ↦ (
      line.path,
      ap (slice_get names) (sym h) ∙ here,
      any-append (λ l. bytes_eq l.path line.path) before (line ∷ [])
          ∙ or-right (list_any (λ l. bytes_eq l.path line.path) before) (list_any (λ l. bytes_eq l.path line.path) (line ∷ [])) (or-left (bytes_eq line.path line.path) false ((bytes_eq-Decides line.path line.path).1 refl)),
    )
  ];
  from = λ k name there any. elim (or-cases (list_any (λ l. bytes_eq l.path name) before) (list_any (λ l. bytes_eq l.path name) (line ∷ [])) (sym (any-append (λ l. bytes_eq l.path name) before (line ∷ [])) ∙ any)) [
    | inl h ↦ Contains-append_left found (at ∷ []) k (is.from k name there h)
    | inr h ↦ last k name there (one (bytes_eq line.path name) h)
  ];
}
  where
    one : (b : Bool) → (b || false) ≡ true → b ≡ true
    one true e = refl
    one false e = e

    last : (k : ℕ) (name : List ℕ) → slice_get names k ≡ Some name → bytes_eq line.path name ≡ true → Contains (found ++ at ∷ []) k
    last k name there e =
        let p : line.path ≡ name = (bytes_eq-Decides line.path name).0 e in
        elim (cases_lt k at) [
          | inl low ↦ absurd (same-place names k at line.path order (there ∙ ap Some (sym p)) here low)
          | inr high ↦ elim (cases_lt at k) [
            | inl above ↦ absurd (same-place names at k line.path order here (there ∙ ap Some (sym p)) above)
            | inr same ↦ (let q : at ≡ k = omega (arith, high, same) in subst (Contains (found ++ at ∷ [])) q (Contains-push found at))
          ]
        ]

-- one that leads to none
pub finds-none : (names : List (List ℕ)) (line : ImportLine) (found : List ℕ) → (Contains names line.path → ⊥) → FindsMore names (line ∷ []) found found
finds-none names line found lacks before is = record {
  into = λ k has. let r = is.into k has in (r.0, r.1, any-append (λ l. bytes_eq l.path r.0) before (line ∷ []) ∙ or-left (list_any (λ l. bytes_eq l.path r.0) before) (list_any (λ l. bytes_eq l.path r.0) (line ∷ [])) r.2);
  from = λ k name there any. elim (or-cases (list_any (λ l. bytes_eq l.path name) before) (list_any (λ l. bytes_eq l.path name) (line ∷ [])) (sym (any-append (λ l. bytes_eq l.path name) before (line ∷ [])) ∙ any)) [
    | inl h ↦ is.from k name there h
    | inr h ↦ absurd (last k name there (one (bytes_eq line.path name) h))
  ];
}
  where
    one : (b : Bool) → (b || false) ≡ true → b ≡ true
    one true e = refl
    one false e = e

    last : (k : ℕ) (name : List ℕ) → slice_get names k ≡ Some name → bytes_eq line.path name ≡ true → ⊥
    last k name there e =
        let p : line.path ≡ name = (bytes_eq-Decides line.path name).0 e in
        lacks (k, slice_get_within names k name there, get_or_from_slice_get names k name line.path there ∙ sym p)

pub finds-nothing : (names : List (List ℕ)) (found : List ℕ) → FindsMore names [] found found
finds-nothing names found before is = subst (λ t. AreFound names t found) (sym (append-nil before)) is

-- one part, and then another
pub finds-both : (names : List (List ℕ)) (one other : List ImportLine) (a b c : List ℕ) → FindsMore names one a b → FindsMore names other b c → FindsMore names (one ++ other) a c
finds-both names one other a b c f g before is = subst (λ t. AreFound names t c) (append_assoc before one other) (g (before ++ one) (f before is))

pub found-none : (names : List (List ℕ)) → AreFound names [] []
found-none names = record {
  into = λ k has. absurd (let l = has.1 in omega (arith, l));
  from = λ k name there any. absurd (let e : false ≡ true = any in cc);
}

-- the same members
pub found-same : (names : List (List ℕ)) (lines : List ImportLine) (found more : List ℕ) → ((k : ℕ) → Contains more k → Contains found k) → ((k : ℕ) → Contains found k → Contains more k) → AreFound names lines found → AreFound names lines more
found-same names lines found more back on is = record {
  into = λ k has. is.into k (back k has);
  from = λ k name there any. on k (is.from k name there any);
}
