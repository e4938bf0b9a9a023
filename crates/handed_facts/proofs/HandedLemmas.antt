-- Facts that are handed in, as they are read, and as members.
use Rattle.std.proofs.Common.{◌≡◌, ◌&&◌, ◌==◌, ℕ, zero, suc, ◌+◌, Bool, true, false, if◌then◌else◌, List, [], ◌∷◌, ◌++◌, map, length, Option, Some, None, is_some, option_map, slice_get, refl, sym, ap, ◌∙◌, subst, inl, inr, arith, eqb→eq, T}
use Rattle.std.specs.Bool.{Decides}
use Rattle.std.specs.List.{Contains}
use Rattle.std.specs.Prelude.{option_and_then, IfSome}
use Rattle.std.specs.Str.{bytes_eq}
use Rattle.std.proofs.lemmas.List.Elements.{Contains-append_left, Contains-append_right, Contains-append_cases, Contains-push, Contains-push_cases}
use Rattle.std.proofs.lemmas.Slice.Eq.{bytes_eq-Decides}
use Rattle.std.proofs.lemmas.List.{length_push}
use Rattle.gv_base.proofs.Lists.{same_some, push_cases}
use Rattle.fact_codec.specs.Texts.{AreFacts}
use Rattle.go_tree.specs.Lexeme.{place_of}
use Rattle.fact_codec.specs.Tables.{fact_of}
use Rattle.least.specs.Tables.{Member, member, Entry, Table, Tells, IsTold}
use Rattle.handed_facts.specs.Handed.{Named, path_in, Facts, TellsFacts, IsNthTold, AreToldTo, ArePathsApart, fact_in, entry, entries_of, tables_of}

module _ {F : Type 0} (spelling : F → List ℕ) where
  -- what is read, and what isn't
  pub told_read : (text : List ℕ) (o : Option (Facts F)) (table : Facts F) → o ≡ Some table → IfSome o (λ t. AreFacts spelling t text) → TellsFacts spelling text table
  told_read text o table e facts = inl (subst (λ (p : Option (Facts F)). IfSome p (λ t. AreFacts spelling t text)) e facts)

  pub told_unread : (text : List ℕ) (o : Option (Facts F)) (table : Facts F) → o ≡ None → ((t : Facts F) → AreFacts spelling t text → o ≡ Some t) → table ≡ [] → TellsFacts spelling text table
  told_unread text o table e only none = inr ((λ other facts. differ o other e (only other facts)), none) where
    differ : (o : Option (Facts F)) (t : Facts F) → o ≡ None → o ≡ Some t → ⊥
    differ o t p q = cc

  pub nth_told : (given : List Named) (k : ℕ) (x : Named) (table : Facts F) → slice_get given k ≡ Some x → TellsFacts spelling x.1 table → IsNthTold spelling given k table
  nth_told given k x table there tells y at = subst (λ (z : Named). TellsFacts spelling z.1 table) (same_some (slice_get given k) x y there at) tells

  pub none_told : (given : List Named) (tables : List (Facts F)) → tables ≡ [] → AreToldTo spelling given 0 tables
  none_told given tables e = subst (λ (l : List (Facts F)). AreToldTo spelling given 0 l) (sym e) (record { size = refl; each = λ k t at. absurd (cc) })

  pub told_more : (given : List Named) (n : ℕ) (tables new : List (Facts F)) (table : Facts F) → AreToldTo spelling given n tables → IsNthTold spelling given n table → new ≡ tables ++ table ∷ [] → AreToldTo spelling given (n + 1) new
  told_more given n tables new table was is now = subst (λ (l : List (Facts F)). AreToldTo spelling given (n + 1) l) (sym now) (record {
    size = length_push tables table ∙ ap (λ m. m + 1) was.size;
    each = λ k t at. elim (push_cases tables table t k at) [
      | inl before ↦ was.each k t before
      | inr (last, same) ↦ subst (λ (x : Facts F). IsNthTold spelling given k x) same (subst (λ (m : ℕ). IsNthTold spelling given m table) (sym (last ∙ was.size)) is)
    ];
  })

  pub all_told : (given : List Named) (n : ℕ) (tables : List (Facts F)) → n ≡ length given → AreToldTo spelling given n tables → AreToldTo spelling given (length given) tables
  all_told given n tables e are = subst (λ (m : ℕ). AreToldTo spelling given m tables) e are

-- ---- as members

same_bytes : (x y : List ℕ) → bytes_eq x y ≡ true → x ≡ y
same_bytes x y e = at (bytes_eq x y) (bytes_eq-Decides x y) e where
  at : (b : Bool) → Decides b (x ≡ y) → b ≡ true → x ≡ y
  at true d h = d.0 refl
  at false d h = absurd (cc)

bytes_same : (x : List ℕ) → bytes_eq x x ≡ true
bytes_same x = at (bytes_eq x x) (bytes_eq-Decides x x) where
  at : (b : Bool) → Decides b (x ≡ x) → b ≡ true
  at true d = refl
  at false d = d.1 refl

same_number : (a b : ℕ) → (a == b) ≡ true → a ≡ b
same_number a b e = eqb→eq a b (subst (λ (x : Bool). T x) (sym e) tt)

none_in : {X : Type 0} (b : X) → Contains [] b → ⊥
none_in b (k, low, e) = omega arith

single_is : {X : Type 0} (a b : X) → Contains (a ∷ []) b → a ≡ b
single_is {X} a b there = elim (Contains-push_cases {X = X} [] a b there) [ inl none ↦ absurd (none_in b none) | inr same ↦ same ]

and_cases : (a b : Bool) → (a && b) ≡ true → (a ≡ true) × (b ≡ true)
and_cases true true e = (refl, refl)
and_cases true false e = absurd (cc)
and_cases false b e = absurd (cc)

-- where facts are of one kind, which has the number 0
module _ {F : Type 0} where
  abbrev one_kind : F → List ℕ
  one_kind fact = 0 ∷ []

  -- a name with a fact is an entry
  fact_entry : (table : Facts F) (name : List ℕ) (f : F) → fact_of table name ≡ Some f → Contains (entries_of one_kind table) (entry name 0)
  fact_entry [] name f e = absurd (cc)
  fact_entry (x ∷ table) name f e = by (bytes_eq x.0 name) refl (fact_entry table name f) e where
    by : (b : Bool) → bytes_eq x.0 name ≡ b → (fact_of table name ≡ Some f → Contains (entries_of one_kind table) (entry name 0)) → (if b then Some x.1 else fact_of table name) ≡ Some f
        → Contains (entries_of one_kind (x ∷ table)) (entry name 0)
    by true same later e = subst (λ (n : List ℕ). Contains (entry x.0 0 ∷ entries_of one_kind table) (entry n 0)) (same_bytes x.0 name same)
        (Contains-append_left (entry x.0 0 ∷ []) (entries_of one_kind table) (entry x.0 0) (Contains-push [] (entry x.0 0)))
    by false other later e = Contains-append_right (entry x.0 0 ∷ []) (entries_of one_kind table) (entry name 0) (later e)

  entry_fact : (table : Facts F) (e : Entry) → Contains (entries_of one_kind table) e → (e.kind ≡ 0) × (is_some (fact_of table e.name) ≡ true)
  entry_fact [] e there = absurd (none_in e there)
  entry_fact (x ∷ table) e there = elim (Contains-append_cases (entry x.0 0 ∷ []) (entries_of one_kind table) e there) [
    | inl here ↦ (
        let same : entry x.0 0 ≡ e = single_is (entry x.0 0) e here in (
          sym (ap (λ (y : Entry). y.kind) same),
          ap (λ b. is_some (if b then Some x.1 else fact_of table e.name)) (ap (λ (n : List ℕ). bytes_eq n e.name) (ap (λ (y : Entry). y.name) same) ∙ bytes_same e.name),
        )
        )
    | inr later ↦ (let r = entry_fact table e later in (r.0, kept (bytes_eq x.0 e.name) x.1 (fact_of table e.name) r.1))
  ] where
    kept : (b : Bool) (f : F) (o : Option F) → is_some o ≡ true → is_some (if b then Some f else o) ≡ true
    kept true f o e = refl
    kept false f o e = e

  -- the table of a place
  nth_table : (given : List Named) (tables : List (Facts F)) (k : ℕ) (x : Named) (t : Facts F) → slice_get given k ≡ Some x → slice_get tables k ≡ Some t
      → Contains (tables_of one_kind given tables) (record { path = x.0; entries = entries_of one_kind t })
  nth_table [] tables k x t e f = absurd (cc)
  nth_table (y ∷ given) [] k x t e f = absurd (cc)
  nth_table (y ∷ given) (s ∷ tables) zero x t e f =
      subst (λ (z : Named). Contains (table y s ∷ tables_of one_kind given tables) (table z t)) (some_is y x e)
      (subst (λ (z : Facts F). Contains (table y s ∷ tables_of one_kind given tables) (table y z)) (some_is s t f) (Contains-append_left (table y s ∷ []) (tables_of one_kind given tables) (table y s) (Contains-push [] (table y s)))) where
        table : Named → Facts F → Table
        table z w = record { path = z.0; entries = entries_of one_kind w }

        some_is : {X : Type 0} (a b : X) → Some a ≡ Some b → a ≡ b
        some_is a b e = cc
  nth_table (y ∷ given) (s ∷ tables) (suc k) x t e f =
      Contains-append_right (record { path = y.0; entries = entries_of one_kind s } ∷ []) (tables_of one_kind given tables) (record { path = x.0; entries = entries_of one_kind t }) (nth_table given tables k x t e f)

  -- where a table comes from
  record IsTableOf (given : List Named) (tables : List (Facts F)) (table : Table) : Type 0 where
    pub k : ℕ
    pub x : Named
    pub t : Facts F
    pub there : slice_get given k ≡ Some x
    pub told : slice_get tables k ≡ Some t
    pub path : table.path ≡ x.0
    pub entries : table.entries ≡ entries_of one_kind t

  table_is : (given : List Named) (tables : List (Facts F)) (table : Table) → Contains (tables_of one_kind given tables) table → IsTableOf given tables table
  table_is [] tables table there = absurd (none_in table there)
  table_is (y ∷ given) [] table there = absurd (none_in table there)
  table_is (y ∷ given) (s ∷ tables) table there = elim (Contains-append_cases (record { path = y.0; entries = entries_of one_kind s } ∷ []) (tables_of one_kind given tables) table there) [
    | inl here ↦ (
        let same = single_is (record { path = y.0; entries = entries_of one_kind s }) table here in
        record { k = 0; x = y; t = s; there = refl; told = refl; path = sym (ap (λ (z : Table). z.path) same); entries = sym (ap (λ (z : Table). z.entries) same) }
        )
    | inr later ↦ (let r = table_is given tables table later in record { k = suc r.k; x = r.x; t = r.t; there = r.there; told = r.told; path = r.path; entries = r.entries })
  ]

  abbrev handed_by : List Named → List (Facts F) → Member → Bool
  handed_by given tables m = (m.kind == 0) && is_some (fact_in given tables m.path m.name)

  -- what is found by path and name is what the tables tell; `place_is` and `place_has` say that the first place of a path is where it stands
  pub hands_in : (given : List Named) (tables : List (Facts F)) → ArePathsApart given → length tables ≡ length given
      → ((xs : List (List ℕ)) (q : List ℕ) (i : ℕ) → place_of xs q ≡ Some i → slice_get xs i ≡ Some q) → ((xs : List (List ℕ)) (q : List ℕ) (k : ℕ) → place_of xs q ≡ None → slice_get xs k ≡ Some q → ⊥)
      → IsTold (tables_of one_kind given tables) (handed_by given tables)
  hands_in given tables apart size place_is place_has m = (
    λ e. (
        let both = and_cases (m.kind == 0) (is_some (fact_in given tables m.path m.name)) e in
        tells (same_number m.kind 0 both.0) (place_of (map path_in given) m.path) refl both.1
        ),
    λ tells_m. has tells_m,
  ) where
    tells_at : (kind : m.kind ≡ 0) (k : ℕ) (x : Named) (t : Facts F) (o : Option F) → slice_get given k ≡ Some x → x.0 ≡ m.path → slice_get tables k ≡ Some t → fact_of t m.name ≡ o → is_some o ≡ true
        → Tells (tables_of one_kind given tables) m
    tells_at kind k x t None there path told e some = absurd (cc)
    tells_at kind k x t (Some f) there path told e some = record {
      table = record { path = x.0; entries = entries_of one_kind t };
      entry = entry m.name 0;
      here = nth_table given tables k x t there told;
      listed = fact_entry t m.name f e;
      is = ap (λ q. member q m.name 0) path ∙ ap (λ n. member m.path m.name n) (sym kind);
    }

    tells_in : (kind : m.kind ≡ 0) (k : ℕ) (o : Option (Facts F)) → slice_get (map path_in given) k ≡ Some m.path → slice_get tables k ≡ o → is_some (option_and_then (λ t. fact_of t m.name) o) ≡ true → Tells (tables_of one_kind given tables) m
    tells_in kind k None path e some = absurd (cc)
    tells_in kind k (Some t) path e some = let (x, there, is) = unmapped given k m.path path in tells_at kind k x t (fact_of t m.name) there is e refl some where
      unmapped : (xs : List Named) (k : ℕ) (q : List ℕ) → slice_get (map path_in xs) k ≡ Some q → (x : Named) × (slice_get xs k ≡ Some x) × (x.0 ≡ q)
      unmapped [] k q e = absurd (cc)
      unmapped (x ∷ xs) zero q e = (x, refl, it x.0 q e) where
        it : (a b : List ℕ) → Some a ≡ Some b → a ≡ b
        it a b e = cc
      unmapped (x ∷ xs) (suc k) q e = unmapped xs k q e

    tells : (kind : m.kind ≡ 0) (o : Option ℕ) → place_of (map path_in given) m.path ≡ o → is_some (option_and_then (λ t. fact_of t m.name) (option_and_then (slice_get tables) o)) ≡ true → Tells (tables_of one_kind given tables) m
    tells kind None e some = absurd (cc)
    tells kind (Some k) e some = tells_in kind k (slice_get tables k) (place_is (map path_in given) m.path k e) refl some

    mapped : (xs : List Named) (k : ℕ) (x : Named) → slice_get xs k ≡ Some x → slice_get (map path_in xs) k ≡ Some x.0
    mapped [] k x e = absurd (cc)
    mapped (y ∷ xs) zero x e = ap (λ (o : Option Named). option_map path_in o) e
    mapped (y ∷ xs) (suc k) x e = mapped xs k x e

    has_at : (k : ℕ) (x : Named) (t : Facts F) (o : Option ℕ) → slice_get given k ≡ Some x → x.0 ≡ m.path → slice_get tables k ≡ Some t → is_some (fact_of t m.name) ≡ true → place_of (map path_in given) m.path ≡ o
        → is_some (option_and_then (λ t. fact_of t m.name) (option_and_then (slice_get tables) o)) ≡ true
    has_at k x t None there path told some e = absurd (place_has (map path_in given) m.path k e (mapped given k x there ∙ ap (λ q. Some q) path))
    has_at k x t (Some j) there path told some e =
        let (y, at, same) = unmapped given j m.path (place_is (map path_in given) m.path j e) in
        let one : j ≡ k = apart j k y x at there (same ∙ sym path) in
        ap (λ i. is_some (option_and_then (λ t. fact_of t m.name) (slice_get tables i))) one ∙ (ap (λ (o : Option (Facts F)). is_some (option_and_then (λ t. fact_of t m.name) o)) told ∙ some) where
          unmapped : (xs : List Named) (k : ℕ) (q : List ℕ) → slice_get (map path_in xs) k ≡ Some q → (x : Named) × (slice_get xs k ≡ Some x) × (x.0 ≡ q)
          unmapped [] k q e = absurd (cc)
          unmapped (x ∷ xs) zero q e = (x, refl, it x.0 q e) where
            it : (a b : List ℕ) → Some a ≡ Some b → a ≡ b
            it a b e = cc
          unmapped (x ∷ xs) (suc k) q e = unmapped xs k q e

    has : Tells (tables_of one_kind given tables) m → handed_by given tables m ≡ true
    has tells_m =
        let r = table_is given tables tells_m.table tells_m.here in
        let listed = entry_fact r.t tells_m.entry (subst (λ (l : List Entry). Contains l tells_m.entry) r.entries tells_m.listed) in
        let path : r.x.0 ≡ m.path = sym r.path ∙ ap (λ (n : Member). n.path) tells_m.is in
        let name : tells_m.entry.name ≡ m.name = ap (λ (n : Member). n.name) tells_m.is in
        let kind : m.kind ≡ 0 = sym (ap (λ (n : Member). n.kind) tells_m.is) ∙ listed.0 in
        both (m.kind == 0) (is_some (fact_in given tables m.path m.name)) (ap (λ n. n == 0) kind)
        (has_at r.k r.x r.t (place_of (map path_in given) m.path) r.there path r.told (ap (λ q. is_some (fact_of r.t q)) (sym name) ∙ listed.1) refl) where
          both : (a b : Bool) → a ≡ true → b ≡ true → (a && b) ≡ true
          both a b e f = ap (λ x. x && b) e ∙ f
