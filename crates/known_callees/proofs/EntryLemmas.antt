-- Tables of names as members: an entry for each kind of the fact of a name.
use Rattle.std.proofs.Common.{◌≡◌, inl, inr, ℕ, zero, suc, List, [], ◌∷◌, ◌++◌, map, Some, slice_get, refl, sym, ap, ◌∙◌, subst, arith}
use Rattle.std.specs.List.{Contains}
use Rattle.std.proofs.lemmas.List.Elements.{Contains-append_left, Contains-append_right, Contains-append_cases, Contains-push, Contains-push_cases}
use Rattle.fact_codec.specs.Texts.{AreFacts}
use Rattle.handed_facts.specs.Handed.{Named, Facts, TellsFacts, entry, entries_of, tables_of}
use Rattle.least.specs.Tables.{Entry, Table}
use Rattle.known_callees.proofs.Words.{no_some, same_some}

pub none_in : {X C : Type 0} (x : X) → Contains [] x → C
none_in x (k, low, e) = absurd (omega arith)

pub single_is : {X : Type 0} (a b : X) → Contains (a ∷ []) b → a ≡ b
single_is {X} a b there = elim (Contains-push_cases {X = X} [] a b there) [ inl none ↦ none_in b none | inr same ↦ same ]

-- ---- texts

-- a text spells one table
abbrev pub ReadsOnce : {F : Type 0} → (F → List ℕ) → Type 0
ReadsOnce {F} spelling = (text : List ℕ) (a b : Facts F) → AreFacts spelling a text → AreFacts spelling b text → a ≡ b

-- a text that spells a table tells it
pub told_is : {F : Type 0} (spelling : F → List ℕ) → ReadsOnce spelling → (text : List ℕ) (a b : Facts F) → TellsFacts spelling text a → AreFacts spelling b text → a ≡ b
told_is spelling once text a b (inl p) q = once text a b p q
told_is spelling once text a b (inr (none, e)) q = absurd (none b q)

-- ---- entries

mapped_in : (name : List ℕ) (list : List ℕ) (kind : ℕ) → Contains list kind → Contains (map (entry name) list) (entry name kind)
mapped_in name [] kind there = none_in kind there
mapped_in name (x ∷ list) kind there = elim (Contains-append_cases (x ∷ []) list kind there) [
  | inl here ↦ subst (λ (k : ℕ). Contains (entry name x ∷ map (entry name) list) (entry name k)) (single_is x kind here) (Contains-append_left (entry name x ∷ []) (map (entry name) list) (entry name x) (Contains-push [] (entry name x)))
  | inr later ↦ Contains-append_right (entry name x ∷ []) (map (entry name) list) (entry name kind) (mapped_in name list kind later)
]

in_mapped : (name : List ℕ) (list : List ℕ) (e : Entry) → Contains (map (entry name) list) e → (e.name ≡ name) × Contains list e.kind
in_mapped name [] e there = none_in e there
in_mapped name (x ∷ list) e there = elim (Contains-append_cases (entry name x ∷ []) (map (entry name) list) e there) [
  | inl here ↦ (
      let same : entry name x ≡ e = single_is (entry name x) e here in
      (ap (λ (y : Entry). y.name) (sym same), subst (λ (k : ℕ). Contains (x ∷ list) k) (ap (λ (y : Entry). y.kind) same) (Contains-append_left (x ∷ []) list x (Contains-push [] x)))
      )
  | inr later ↦ (let r = in_mapped name list e later in (r.0, Contains-append_right (x ∷ []) list e.kind r.1))
]

module _ {F : Type 0} (kinds : F → List ℕ) where
  pub fact_entry : (table : Facts F) (name : List ℕ) (fact : F) (kind : ℕ) → Contains table (name, fact) → Contains (kinds fact) kind → Contains (entries_of kinds table) (entry name kind)
  fact_entry [] name fact kind there has = none_in (name, fact) there
  fact_entry (x ∷ table) name fact kind there has = elim (Contains-append_cases (x ∷ []) table (name, fact) there) [
    | inl here ↦ subst (λ (y : List ℕ × F). Contains (map (entry y.0) (kinds y.1) ++ entries_of kinds table) (entry name kind)) (sym (single_is x (name, fact) here))
        (Contains-append_left (map (entry name) (kinds fact)) (entries_of kinds table) (entry name kind) (mapped_in name (kinds fact) kind has))
    | inr later ↦ Contains-append_right (map (entry x.0) (kinds x.1)) (entries_of kinds table) (entry name kind) (fact_entry table name fact kind later has)
  ]

  pub entry_fact : (table : Facts F) (e : Entry) → Contains (entries_of kinds table) e → (fact : F) × Contains table (e.name, fact) × Contains (kinds fact) e.kind
  entry_fact [] e there = none_in e there
  entry_fact (x ∷ table) e there = elim (Contains-append_cases (map (entry x.0) (kinds x.1)) (entries_of kinds table) e there) [
    | inl here ↦ (
        let r = in_mapped x.0 (kinds x.1) e here in
        (x.1, subst (λ (n : List ℕ). Contains (x ∷ table) (n, x.1)) (sym r.0) (Contains-append_left (x ∷ []) table x (Contains-push [] x)), r.1)
        )
    | inr later ↦ (let r = entry_fact table e later in (r.0, Contains-append_right (x ∷ []) table (e.name, r.0) r.1, r.2))
  ]

  -- ---- tables

  abbrev pub table_with : List ℕ → Facts F → Table
  table_with path table = record { path = path; entries = entries_of kinds table }

  -- where a table comes from
  pub record IsPlaced (given : List Named) (tables : List (Facts F)) (t : Table) : Type 0 where
    pub k : ℕ
    pub x : Named
    pub table : Facts F
    pub there : slice_get given k ≡ Some x
    pub told : slice_get tables k ≡ Some table
    pub is : t ≡ table_with x.0 table

  pub table_placed : (given : List Named) (tables : List (Facts F)) (t : Table) → Contains (tables_of kinds given tables) t → IsPlaced given tables t
  table_placed [] tables t there = none_in t there
  table_placed (x ∷ given) [] t there = none_in t there
  table_placed (x ∷ given) (s ∷ tables) t (zero, low, at) = record { k = 0; x = x; table = s; there = refl; told = refl; is = sym at }
  table_placed (x ∷ given) (s ∷ tables) t (suc k, low, at) =
      let r = table_placed given tables t (k, omega (arith, low), at) in record { k = suc r.k; x = r.x; table = r.table; there = r.there; told = r.told; is = r.is }

  pub placed_table : (given : List Named) (tables : List (Facts F)) (k : ℕ) (x : Named) (s : Facts F) → slice_get given k ≡ Some x → slice_get tables k ≡ Some s → Contains (tables_of kinds given tables) (table_with x.0 s)
  placed_table [] tables k x s e f = no_some x e
  placed_table (y ∷ given) [] k x s e f = no_some s f
  placed_table (y ∷ given) (t ∷ tables) zero x s e f =
      (zero, omega arith, ap (λ (z : Named). table_with z.0 t) (same_some y x e) ∙ ap (λ (z : Facts F). table_with x.0 z) (same_some t s f))
  placed_table (y ∷ given) (t ∷ tables) (suc k) x s e f =
      let (j, under, is) = placed_table given tables k x s e f in
      (suc j, omega (arith, under), is)
