-- A name more in a table of facts.
use Rattle.std.proofs.Common.{◌≡◌, ◌↔◌, ◌⊎◌, ◌++◌, ℕ, Bool, true, false, cond, if◌then◌else◌, List, [], ◌∷◌, map, filter, Option, Some, None, is_some, refl, sym, ap, ◌∙◌, subst, inl, inr, arith}
use Rattle.std.specs.List.{Contains}
use Rattle.std.specs.Bool.{Decides}
use Rattle.std.specs.Str.{bytes_eq}
use Rattle.std.specs.Cmp.Lexicographic.{slice_cmp}
use Rattle.std.specs.Ordering.{nat_cmp}
use Rattle.std.specs.declared.cmp.Ordering.{Ordering}
use Rattle.std.specs.declared.cmp.Ordering.TheVariants.{Less, Equal, Greater}
use Rattle.std.proofs.lemmas.List.Elements.{Contains-append_left, Contains-append_right, Contains-append_cases, Contains-push, Contains-push_cases}
use Rattle.std.proofs.lemmas.Slice.Eq.{bytes_eq-Decides}
use Rattle.fact_codec.specs.declared.units.Never.{Never}
use Rattle.fact_codec.specs.Tables.{fact_of, put_fact}
use Rattle.gv_base.specs.Files.{is_before}
use Rattle.gv_base.proofs.FileLemmas.{less-before, same-path, after-flip}
use Rattle.handed_facts.specs.Handed.{Facts}
use Rattle.vet_never.specs.Never.{fact_name}

none_in : {X : Type 0} (b : X) → Contains [] b → ⊥
none_in b (k, low, e) = omega arith

single_is : {X : Type 0} (a b : X) → Contains (a ∷ []) b → a ≡ b
single_is {X} a b there = elim (Contains-push_cases {X = X} [] a b there) [ inl none ↦ absurd (none_in b none) | inr same ↦ same ]

split : (x : List ℕ) (xs : List (List ℕ)) (n : List ℕ) → Contains (x ∷ xs) n → (x ≡ n) ⊎ Contains xs n
split x xs n there = elim (Contains-append_cases (x ∷ []) xs n there) [ inl here ↦ inl (single_is x n here) | inr later ↦ inr later ]

first_in : (x : List ℕ) (xs : List (List ℕ)) → Contains (x ∷ xs) x
first_in x xs = Contains-append_left (x ∷ []) xs x (Contains-push [] x)

later_in : (x : List ℕ) (xs : List (List ℕ)) (n : List ℕ) → Contains xs n → Contains (x ∷ xs) n
later_in x xs n there = Contains-append_right (x ∷ []) xs n there

-- ---- filters

in_filter : (test : List ℕ → Bool) (xs : Facts Never) (q : List ℕ) → Contains (map fact_name (filter (λ (e : List ℕ × Never). test e.0) xs)) q → Contains (map fact_name xs) q
in_filter test [] q there = there
in_filter test (x ∷ xs) q there = by (test x.0) (in_filter test xs q) there where
  by : (b : Bool) → (Contains (map fact_name (filter (λ (e : List ℕ × Never). test e.0) xs)) q → Contains (map fact_name xs) q)
      → Contains (map fact_name (cond b (x ∷ filter (λ (e : List ℕ × Never). test e.0) xs) (filter (λ (e : List ℕ × Never). test e.0) xs))) q → Contains (map fact_name (x ∷ xs)) q
  by true rest there = elim (split x.0 (map fact_name (filter (λ (e : List ℕ × Never). test e.0) xs)) q there) [
    | inl same ↦ subst (λ (z : List ℕ). Contains (x.0 ∷ map fact_name xs) z) same (first_in x.0 (map fact_name xs))
    | inr later ↦ later_in x.0 (map fact_name xs) q (rest later)
  ]
  by false rest there = later_in x.0 (map fact_name xs) q (rest there)

filter_in : (test : List ℕ → Bool) (xs : Facts Never) (q : List ℕ) → test q ≡ true → Contains (map fact_name xs) q → Contains (map fact_name (filter (λ (e : List ℕ × Never). test e.0) xs)) q
filter_in test [] q passes there = there
filter_in test (x ∷ xs) q passes there = by (test x.0) refl (filter_in test xs q passes) (split x.0 (map fact_name xs) q there) where
  clash : (b : Bool) → b ≡ false → b ≡ true → ⊥
  clash b p q = cc

  by : (b : Bool) → test x.0 ≡ b → (Contains (map fact_name xs) q → Contains (map fact_name (filter (λ (e : List ℕ × Never). test e.0) xs)) q) → (x.0 ≡ q) ⊎ Contains (map fact_name xs) q
      → Contains (map fact_name (cond b (x ∷ filter (λ (e : List ℕ × Never). test e.0) xs) (filter (λ (e : List ℕ × Never). test e.0) xs))) q
  by true e rest (inl same) = subst (λ (z : List ℕ). Contains (x.0 ∷ map fact_name (filter (λ (e : List ℕ × Never). test e.0) xs)) z) same (first_in x.0 (map fact_name (filter (λ (e : List ℕ × Never). test e.0) xs)))
  by true e rest (inr later) = later_in x.0 (map fact_name (filter (λ (e : List ℕ × Never). test e.0) xs)) q (rest later)
  by false e rest (inl same) = absurd (clash (test x.0) e (ap test same ∙ passes))
  by false e rest (inr later) = rest later

mapped_append : (xs ys : Facts Never) → map fact_name (xs ++ ys) ≡ map fact_name xs ++ map fact_name ys
mapped_append [] ys = refl
mapped_append (x ∷ xs) ys = ap (λ l. x.0 ∷ l) (mapped_append xs ys)

-- ---- what is put

-- a name with no fact isn't one of the table's
absent : (table : Facts Never) (q : List ℕ) → fact_of table q ≡ None → Contains (map fact_name table) q → ⊥
absent [] q none there = none_in q there
absent (x ∷ table) q none there = by (bytes_eq x.0 q) (bytes_eq-Decides x.0 q) (absent table q) none (split x.0 (map fact_name table) q there) where
  by : (b : Bool) → Decides b (x.0 ≡ q) → (fact_of table q ≡ None → Contains (map fact_name table) q → ⊥) → (if b then Some x.1 else fact_of table q) ≡ None → (x.0 ≡ q) ⊎ Contains (map fact_name table) q → ⊥
  by true d rest e there = cc
  by false d rest e (inl same) = clash (d.1 same) where
    clash : false ≡ true → ⊥
    clash e = cc
  by false d rest e (inr later) = rest e later

-- of two other names one stands before the other
total : (p q : List ℕ) → (p ≡ q → ⊥) → (is_before p q ≡ true) ⊎ (is_before q p ≡ true)
total p q apart = by (slice_cmp nat_cmp p q) refl where
  by : (r : Ordering) → slice_cmp nat_cmp p q ≡ r → (is_before p q ≡ true) ⊎ (is_before q p ≡ true)
  by Less e = inl (less-before p q e)
  by Equal e = absurd (apart (same-path p q e))
  by Greater e = inr (after-flip p q e)

-- a name with a fact is one of the table's
present : (table : Facts Never) (q : List ℕ) → is_some (fact_of table q) ≡ true → Contains (map fact_name table) q
present [] q e = absurd (cc)
present (x ∷ table) q e = by (bytes_eq x.0 q) (bytes_eq-Decides x.0 q) (present table q) e where
  by : (b : Bool) → Decides b (x.0 ≡ q) → (is_some (fact_of table q) ≡ true → Contains (map fact_name table) q) → is_some (if b then Some x.1 else fact_of table q) ≡ true → Contains (map fact_name (x ∷ table)) q
  by true d rest e = subst (λ (z : List ℕ). Contains (x.0 ∷ map fact_name table) z) (d.0 refl) (first_in x.0 (map fact_name table))
  by false d rest e = later_in x.0 (map fact_name table) q (rest e)

-- one that is there already
pub kept_names : (table : Facts Never) (name q : List ℕ) → is_some (fact_of table name) ≡ true → Contains (map fact_name table) q ↔ (Contains (map fact_name table) q ⊎ (q ≡ name))
kept_names table name q e = (
  λ there. inl there,
  λ h. elim h [ inl there ↦ there | inr same ↦ subst (λ (z : List ℕ). Contains (map fact_name table) z) (sym same) (present table name e) ],
)

pub none_of : (o : Option Never) → is_some o ≡ false → o ≡ None
none_of None e = refl
none_of (Some f) e = absurd (cc)

pub put_names : (table : Facts Never) (name q : List ℕ) (fact : Never) → fact_of table name ≡ None → Contains (map fact_name (put_fact table name fact)) q ↔ (Contains (map fact_name table) q ⊎ (q ≡ name))
put_names table name q fact none = (
  λ there. elim (Contains-append_cases (map fact_name before) (name ∷ map fact_name behind) q (subst (λ l. Contains l q) (mapped_append before ((name, fact) ∷ behind)) there)) [
    | inl first ↦ inl (in_filter (λ n. is_before n name) table q first)
    | inr rest ↦ elim (split name (map fact_name behind) q rest) [ inl same ↦ inr (sym same) | inr last ↦ inl (in_filter (λ n. is_before name n) table q last) ]
  ],
  λ h. subst (λ l. Contains l q) (sym (mapped_append before ((name, fact) ∷ behind))) (elim h [
    | inl there ↦ elim (total q name (λ e. absent table name none (subst (λ z. Contains (map fact_name table) z) e there))) [
      | inl less ↦ Contains-append_left (map fact_name before) (name ∷ map fact_name behind) q (filter_in (λ n. is_before n name) table q less there)
      | inr more ↦ Contains-append_right (map fact_name before) (name ∷ map fact_name behind) q (later_in name (map fact_name behind) q (filter_in (λ n. is_before name n) table q more there))
    ]
    | inr same ↦ Contains-append_right (map fact_name before) (name ∷ map fact_name behind) q (subst (λ z. Contains (name ∷ map fact_name behind) z) (sym same) (first_in name (map fact_name behind)))
  ]),
) where
  before : Facts Never
  before = filter (λ (e : List ℕ × Never). is_before e.0 name) table

  behind : Facts Never
  behind = filter (λ (e : List ℕ × Never). is_before name e.0) table
