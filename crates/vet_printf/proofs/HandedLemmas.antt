-- Facts of several kinds that are handed in, as members.
use Rattle.std.proofs.Common.{◌≡◌, ◌<◌, ◌==◌, ℕ, zero, suc, Bool, true, false, if◌then◌else◌, List, [], ◌∷◌, ◌++◌, map, length, Option, Some, None, slice_index_or, AllPairs, refl, sym, ap, ◌∙◌, subst, inl, inr, arith}
use Rattle.std.specs.Bool.{Decides}
use Rattle.std.specs.List.{Contains, list_any}
use Rattle.std.specs.Prelude.{slice_get, option_and_then}
use Rattle.std.specs.Option.{option_map_or}
use Rattle.std.specs.Str.{bytes_eq}
use Rattle.std.proofs.lemmas.Bool.{eqb-true, eq-eqb}
use Rattle.std.proofs.lemmas.List.Elements.{Contains-append_left, Contains-append_right, Contains-append_cases, Contains-push, Contains-push_cases}
use Rattle.std.proofs.lemmas.Option.{slice_get_within}
use Rattle.std.proofs.lemmas.Slice.Eq.{bytes_eq-Decides}
use Rattle.fact_codec.specs.Tables.{AreInOrder, fact_of}
use Rattle.fact_codec.specs.Texts.{AreFacts}
use Rattle.go_tree.specs.Lexeme.{place_of}
use Rattle.gv_base.specs.Files.{is_before}
use Rattle.gv_base.proofs.FileLemmas.{before-other}
use Rattle.handed_facts.specs.Handed.{Named, path_in, Facts, TellsFacts, AreToldBy, ArePathsApart, fact_in, entry, entries_of, tables_of}
use Rattle.least.specs.Tables.{Member, member, Entry, Table, member_of, Tells, IsTold}
use Rattle.own_functions.proofs.NameLemmas.{place_there, place_none, mapped_there}
use Rattle.fact_codec.specs.declared.wraps.Wraps.{Wraps}
use Rattle.vet_printf.specs.Knowing.{is_kind, has_number, given_as, given_by}
use Rattle.vet_printf.specs.Wraps.{kinds_of}
use Rattle.vet_printf.proofs.AskLemmas.{any_has, has_any}
use Rattle.vet_printf.proofs.ReaderLemmas.{same_some, either}

none_in : {X : Type 0} (b : X) → Contains [] b → ⊥
none_in b (k, low, e) = omega arith

single_is : {X : Type 0} (a b : X) → Contains (a ∷ []) b → a ≡ b
single_is {X} a b there = elim (Contains-push_cases {X = X} [] a b there) [ inl none ↦ absurd (none_in b none) | inr same ↦ same ]

same_bytes : (x y : List ℕ) → bytes_eq x y ≡ true → x ≡ y
same_bytes x y e = at (bytes_eq x y) (bytes_eq-Decides x y) e where
  at : (b : Bool) → Decides b (x ≡ y) → b ≡ true → x ≡ y
  at true d h = d.0 refl
  at false d h = absurd (cc)

bytes_same : (x : List ℕ) → bytes_eq x x ≡ true
bytes_same x = at (bytes_eq x x) (bytes_eq-Decides x x) where
  at : (b : Bool) → Decides b (x ≡ x) → b ≡ true
  at true d = refl
  at false d = d.1 refl

-- ---- a table in order has each name once

rest_ordered : {F : Type 0} (x : List ℕ × F) (table : Facts F) → AreInOrder (x ∷ table) → AreInOrder table
rest_ordered x table ordered i j d low high = ordered (suc i) (suc j) d (omega (arith, low)) (omega (arith, high))

-- where a name with a fact stands
fact_place : {F : Type 0} (table : Facts F) (name : List ℕ) (f : F) → fact_of table name ≡ Some f → (k : ℕ) × (k < length table) × ((d : List ℕ × F) → (slice_index_or table k d).0 ≡ name)
fact_place [] name f e = absurd (cc)
fact_place {F} (x ∷ table) name f e = by (bytes_eq x.0 name) refl (fact_place table name f) e where
  by : (b : Bool) → bytes_eq x.0 name ≡ b → (fact_of table name ≡ Some f → (k : ℕ) × (k < length table) × ((d : List ℕ × F) → (slice_index_or table k d).0 ≡ name)) → (if b then Some x.1 else fact_of table name) ≡ Some f
      → (k : ℕ) × (k < length (x ∷ table)) × ((d : List ℕ × F) → (slice_index_or (x ∷ table) k d).0 ≡ name)
  by true same later e = (0, omega arith, λ d. same_bytes x.0 name same)
  by false other later e = let r = later e in (suc r.0, (let low = r.1 in omega (arith, low)), λ d. r.2 d)

-- the first name is none of the others
first_apart : {F : Type 0} (x : List ℕ × F) (table : Facts F) (name : List ℕ) (f : F) → AreInOrder (x ∷ table) → fact_of table name ≡ Some f → bytes_eq x.0 name ≡ false
first_apart x table name f ordered e =
    let r = fact_place table name f e in
    let before : is_before x.0 (slice_index_or table r.0 x).0 ≡ true = ordered 0 (suc r.0) x (omega arith) (let low = r.1 in omega (arith, low)) in
    before-other x.0 name (subst (λ (q : List ℕ). is_before x.0 q ≡ true) (r.2 x) before)

pub fact_there : {F : Type 0} (table : Facts F) (name : List ℕ) (f : F) → fact_of table name ≡ Some f → Contains table (name, f)
fact_there [] name f e = absurd (cc)
fact_there {F} (x ∷ table) name f e = by (bytes_eq x.0 name) refl (fact_there table name f) e where
  by : (b : Bool) → bytes_eq x.0 name ≡ b → (fact_of table name ≡ Some f → Contains table (name, f)) → (if b then Some x.1 else fact_of table name) ≡ Some f → Contains (x ∷ table) (name, f)
  by true same later e = subst (λ (y : List ℕ × F). Contains (x ∷ table) y) (ap (λ (q : List ℕ). (q, x.1)) (same_bytes x.0 name same) ∙ ap (λ (g : F). (name, g)) (same_some e)) (Contains-append_left (x ∷ []) table x (Contains-push [] x))
  by false other later e = Contains-append_right (x ∷ []) table (name, f) (later e)

pub there_fact : {F : Type 0} (table : Facts F) (name : List ℕ) (f : F) → AreInOrder table → Contains table (name, f) → fact_of table name ≡ Some f
there_fact [] name f ordered there = absurd (none_in (name, f) there)
there_fact {F} (x ∷ table) name f ordered there = elim (Contains-append_cases (x ∷ []) table (name, f) there) [
  | inl here ↦ (
      let same : x ≡ (name, f) = single_is x (name, f) here in
      subst (λ (y : List ℕ × F). fact_of (y ∷ table) name ≡ Some f) (sym same) (ap (λ b. if b then Some f else fact_of table name) (bytes_same name))
      )
  | inr later ↦ (
      let e = there_fact table name f (rest_ordered x table ordered) later in
      ap (λ b. if b then Some x.1 else fact_of table name) (first_apart x table name f ordered e) ∙ e
      )
]

-- ---- entries

mapped_in : (name : List ℕ) (list : List ℕ) (kind : ℕ) → Contains list kind → Contains (map (entry name) list) (entry name kind)
mapped_in name [] kind there = absurd (none_in kind there)
mapped_in name (x ∷ list) kind there = elim (Contains-append_cases (x ∷ []) list kind there) [
  | inl here ↦ subst (λ (k : ℕ). Contains (entry name x ∷ map (entry name) list) (entry name k)) (single_is x kind here) (Contains-append_left (entry name x ∷ []) (map (entry name) list) (entry name x) (Contains-push [] (entry name x)))
  | inr later ↦ Contains-append_right (entry name x ∷ []) (map (entry name) list) (entry name kind) (mapped_in name list kind later)
]

in_mapped : (name : List ℕ) (list : List ℕ) (e : Entry) → Contains (map (entry name) list) e → (e.name ≡ name) × Contains list e.kind
in_mapped name [] e there = absurd (none_in e there)
in_mapped name (x ∷ list) e there = elim (Contains-append_cases (entry name x ∷ []) (map (entry name) list) e there) [
  | inl here ↦ (
      let same : entry name x ≡ e = single_is (entry name x) e here in
      (ap (λ (y : Entry). y.name) (sym same), subst (λ (k : ℕ). Contains (x ∷ list) k) (ap (λ (y : Entry). y.kind) same) (Contains-append_left (x ∷ []) list x (Contains-push [] x)))
      )
  | inr later ↦ (let r = in_mapped name list e later in (r.0, Contains-append_right (x ∷ []) list e.kind r.1))
]

module _ {F : Type 0} (kinds : F → List ℕ) where
  fact_entry : (table : Facts F) (name : List ℕ) (f : F) (kind : ℕ) → fact_of table name ≡ Some f → Contains (kinds f) kind → Contains (entries_of kinds table) (entry name kind)
  fact_entry [] name f kind e there = absurd (cc)
  fact_entry (x ∷ table) name f kind e there = by (bytes_eq x.0 name) refl (λ g. fact_entry table name f kind g there) e where
    by : (b : Bool) → bytes_eq x.0 name ≡ b → (fact_of table name ≡ Some f → Contains (entries_of kinds table) (entry name kind)) → (if b then Some x.1 else fact_of table name) ≡ Some f → Contains (entries_of kinds (x ∷ table)) (entry name kind)
    by true same later e = Contains-append_left (map (entry x.0) (kinds x.1)) (entries_of kinds table) (entry name kind)
        (subst (λ (q : List ℕ). Contains (map (entry x.0) (kinds x.1)) (entry q kind)) (same_bytes x.0 name same) (mapped_in x.0 (kinds x.1) kind (subst (λ (g : F). Contains (kinds g) kind) (sym (same_some e)) there)))
    by false other later e = Contains-append_right (map (entry x.0) (kinds x.1)) (entries_of kinds table) (entry name kind) (later e)

  entry_fact : (table : Facts F) (e : Entry) → AreInOrder table → Contains (entries_of kinds table) e → (f : F) × (fact_of table e.name ≡ Some f) × Contains (kinds f) e.kind
  entry_fact [] e ordered there = absurd (none_in e there)
  entry_fact (x ∷ table) e ordered there = elim (Contains-append_cases (map (entry x.0) (kinds x.1)) (entries_of kinds table) e there) [
    | inl here ↦ (
        let r = in_mapped x.0 (kinds x.1) e here in
        (x.1, ap (λ b. if b then Some x.1 else fact_of table e.name) (ap (bytes_eq x.0) r.0 ∙ bytes_same x.0), r.1)
        )
    | inr later ↦ (
        let r = entry_fact table e (rest_ordered x table ordered) later in
        (r.0, ap (λ b. if b then Some x.1 else fact_of table e.name) (first_apart x table e.name r.0 ordered r.1) ∙ r.1, r.2)
        )
  ]

  -- ---- tables

  abbrev table_with : Named → Facts F → Table
  table_with x t = record { path = x.0; entries = entries_of kinds t }

  nth_table : (given : List Named) (tables : List (Facts F)) (k : ℕ) (x : Named) (t : Facts F) → slice_get given k ≡ Some x → slice_get tables k ≡ Some t → Contains (tables_of kinds given tables) (table_with x t)
  nth_table [] tables k x t e f = absurd (cc)
  nth_table (y ∷ given) [] k x t e f = absurd (cc)
  nth_table (y ∷ given) (s ∷ tables) zero x t e f =
      subst (λ (z : Named). Contains (table_with y s ∷ tables_of kinds given tables) (table_with z t)) (same_some e)
      (subst (λ (z : Facts F). Contains (table_with y s ∷ tables_of kinds given tables) (table_with y z)) (same_some f)
      (Contains-append_left (table_with y s ∷ []) (tables_of kinds given tables) (table_with y s) (Contains-push [] (table_with y s))))
  nth_table (y ∷ given) (s ∷ tables) (suc k) x t e f = Contains-append_right (table_with y s ∷ []) (tables_of kinds given tables) (table_with x t) (nth_table given tables k x t e f)

  -- where a table comes from
  record IsTableOf (given : List Named) (tables : List (Facts F)) (table : Table) : Type 0 where
    pub k : ℕ
    pub x : Named
    pub t : Facts F
    pub there : slice_get given k ≡ Some x
    pub told : slice_get tables k ≡ Some t
    pub is_with : table_with x t ≡ table

  table_is : (given : List Named) (tables : List (Facts F)) (table : Table) → Contains (tables_of kinds given tables) table → IsTableOf given tables table
  table_is [] tables table there = absurd (none_in table there)
  table_is (y ∷ given) [] table there = absurd (none_in table there)
  table_is (y ∷ given) (s ∷ tables) table there = elim (Contains-append_cases (table_with y s ∷ []) (tables_of kinds given tables) table there) [
    | inl here ↦ record { k = 0; x = y; t = s; there = refl; told = refl; is_with = single_is (table_with y s) table here }
    | inr later ↦ (let r = table_is given tables table later in record { k = suc r.k; x = r.x; t = r.t; there = r.there; told = r.told; is_with = r.is_with })
  ]

-- ---- members

told_ordered : (spelling : Wraps → List ℕ) (text : List ℕ) (table : Facts Wraps) → TellsFacts spelling text table → AreInOrder table
told_ordered spelling text table (inl facts) = facts.order
told_ordered spelling text table (inr (nothing, none)) = subst (λ (l : Facts Wraps). AreInOrder l) (sym none) (λ i j d low high. absurd (omega (arith, high)))

mapped : (xs : List Named) (k : ℕ) (x : Named) → slice_get xs k ≡ Some x → slice_get (map path_in xs) k ≡ Some x.0
mapped [] k x e = absurd (cc)
mapped (y ∷ xs) zero x e = ap (λ (z : Named). Some z.0) (same_some e)
mapped (y ∷ xs) (suc k) x e = mapped xs k x e

-- a path stands where it is found
path_place : (given : List Named) (k : ℕ) (x : Named) → ArePathsApart given → slice_get given k ≡ Some x → place_of (map path_in given) x.0 ≡ Some k
path_place given k x apart there = by (place_of (map path_in given) x.0) refl where
  by : (o : Option ℕ) → place_of (map path_in given) x.0 ≡ o → o ≡ Some k
  by None e = absurd (place_none (map path_in given) x.0 k e (mapped given k x there))
  by (Some j) e =
      let (y, at, same) = mapped_there path_in given j x.0 (place_there (map path_in given) x.0 j e) in
      ap (λ (i : ℕ). Some i) (apart j k y x at there same)

has_kinds : (kind : ℕ) (f : Wraps) → has_number kind f ≡ true → Contains (kinds_of f) kind
has_kinds kind f e = let r = any_has (is_kind kind) (kinds_of f) e in subst (λ (k : ℕ). Contains (kinds_of f) k) (eqb-true r.0 kind r.2) r.1

kinds_has : (kind : ℕ) (f : Wraps) → Contains (kinds_of f) kind → has_number kind f ≡ true
kinds_has kind f there = has_any (is_kind kind) (kinds_of f) kind there (eq-eqb kind kind refl)

module _ (spelling : Wraps → List ℕ) (given : List Named) (tables : List (Facts Wraps)) (apart : ArePathsApart given) (told : AreToldBy spelling given tables) where
  -- a fact that is found, and where
  record IsFound (path name : List ℕ) (kind : ℕ) : Type 0 where
    pub k : ℕ
    pub x : Named
    pub t : Facts Wraps
    pub f : Wraps
    pub there : slice_get given k ≡ Some x
    pub path_is : x.0 ≡ path
    pub table : slice_get tables k ≡ Some t
    pub fact : fact_of t name ≡ Some f
    pub has : has_number kind f ≡ true

  found_is : (path name : List ℕ) (kind : ℕ) → given_as given tables kind path name ≡ true → IsFound path name kind
  found_is path name kind e = at_place (place_of (map path_in given) path) refl e where
    at_fact : (k : ℕ) (x : Named) (t : Facts Wraps) (o : Option Wraps) → slice_get given k ≡ Some x → x.0 ≡ path → slice_get tables k ≡ Some t → fact_of t name ≡ o → option_map_or (has_number kind) o false ≡ true → IsFound path name kind
    at_fact k x t None there same table fact e = absurd (cc)
    at_fact k x t (Some f) there same table fact e = record { k = k; x = x; t = t; f = f; there = there; path_is = same; table = table; fact = fact; has = e }

    at_table : (k : ℕ) (x : Named) (o : Option (Facts Wraps)) → slice_get given k ≡ Some x → x.0 ≡ path → slice_get tables k ≡ o → option_map_or (has_number kind) (option_and_then (λ (t : Facts Wraps). fact_of t name) o) false ≡ true → IsFound path name kind
    at_table k x None there same table e = absurd (cc)
    at_table k x (Some t) there same table e = at_fact k x t (fact_of t name) there same table refl e

    at_place : (o : Option ℕ) → place_of (map path_in given) path ≡ o
        → option_map_or (has_number kind) (option_and_then (λ (t : Facts Wraps). fact_of t name) (option_and_then (slice_get tables) o)) false ≡ true → IsFound path name kind
    at_place None is e = absurd (cc)
    at_place (Some k) is e =
        let (x, there, same) = mapped_there path_in given k path (place_there (map path_in given) path k is) in
        at_table k x (slice_get tables k) there same refl e

  tells : (m : Member) → given_by given tables m ≡ true → Tells (tables_of kinds_of given tables) m
  tells m e =
      let r = found_is m.path m.name m.kind e in
      record {
        table = table_with kinds_of r.x r.t;
        entry = entry m.name m.kind;
        here = nth_table kinds_of given tables r.k r.x r.t r.there r.table;
        listed = fact_entry kinds_of r.t m.name r.f m.kind r.fact (has_kinds m.kind r.f r.has);
        «is» = ap (λ (q : List ℕ). member q m.name m.kind) r.path_is;
      }

  found_as : (k : ℕ) (x : Named) (t : Facts Wraps) (f : Wraps) (path name : List ℕ) (kind : ℕ) → slice_get given k ≡ Some x → x.0 ≡ path → slice_get tables k ≡ Some t → fact_of t name ≡ Some f → has_number kind f ≡ true
      → given_as given tables kind path name ≡ true
  found_as k x t f path name kind there same table fact has =
      let place : place_of (map path_in given) path ≡ Some k = ap (λ (q : List ℕ). place_of (map path_in given) q) (sym same) ∙ path_place given k x apart there in
      ap (λ (o : Option ℕ). option_map_or (has_number kind) (option_and_then (λ (s : Facts Wraps). fact_of s name) (option_and_then (slice_get tables) o)) false) place
      ∙ (ap (λ (o : Option (Facts Wraps)). option_map_or (has_number kind) (option_and_then (λ (s : Facts Wraps). fact_of s name) o) false) table
      ∙ (ap (λ (o : Option Wraps). option_map_or (has_number kind) o false) fact ∙ has))

  told_has : (m : Member) → Tells (tables_of kinds_of given tables) m → given_by given tables m ≡ true
  told_has m h =
      let r = table_is kinds_of given tables h.table h.here in
      let ordered : AreInOrder r.t = told_ordered spelling r.x.1 r.t (told.each r.k r.t r.told r.x r.there) in
      let listed : Contains (entries_of kinds_of r.t) h.entry = subst (λ (y : Table). Contains y.entries h.entry) (sym r.is_with) h.listed in
      let e = entry_fact kinds_of r.t h.entry ordered listed in
      let same : member r.x.0 h.entry.name h.entry.kind ≡ m = ap (λ (y : Table). member y.path h.entry.name h.entry.kind) r.is_with ∙ h.«is» in
      subst (λ (y : Member). given_by given tables y ≡ true) same
      (found_as r.k r.x r.t e.0 r.x.0 h.entry.name h.entry.kind r.there refl r.told e.1 (kinds_has h.entry.kind e.0 e.2))

  -- what is found by path and name is what the tables tell
  pub hands_in : IsTold (tables_of kinds_of given tables) (given_by given tables)
  hands_in m = (λ e. tells m e, λ h. told_has m h)
