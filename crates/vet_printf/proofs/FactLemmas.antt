-- The table of the functions that print, name by name.
use Rattle.std.proofs.Common.{◌≡◌, ◌⊎◌, ◌↔◌, ◌<◌, ◌+◌, inl, inr, ℕ, zero, suc, Bool, true, false, cond, ◌||◌, List, [], ◌∷◌, ◌++◌, take, filter, length, map, Option, Some, None, is_some, refl, sym, ap, ◌∙◌, subst, if◌then◌else◌, arith}
use Rattle.std.specs.Bool.{Decides}
use Rattle.std.specs.List.{Contains, list_any}
use Rattle.std.specs.Option.{option_map_or}
use Rattle.std.specs.Cmp.Lexicographic.{slice_cmp}
use Rattle.std.specs.Ordering.{nat_cmp}
use Rattle.std.specs.declared.cmp.Ordering.{Ordering}
use Rattle.std.specs.declared.cmp.Ordering.TheVariants.{Less, Equal, Greater}
use Rattle.std.specs.Prelude.{slice_get}
use Rattle.std.specs.Str.{bytes_eq}
use Rattle.std.proofs.lemmas.Slice.Eq.{bytes_eq-Decides}
use Rattle.fact_codec.specs.declared.wraps.WrapKind.{WrapKind}
use Rattle.fact_codec.specs.declared.wraps.WrapKind.TheVariants as wrap
use Rattle.fact_codec.specs.declared.wraps.Wraps.{Wraps}
use Rattle.fact_codec.specs.Kinds.{has_kind, wraps_numbered, wraps_spelling}
use Rattle.fact_codec.specs.Tables.{AreInOrder, fact_of, put_fact}
use Rattle.fact_codec.specs.Texts.{AreFacts}
use Rattle.gv_base.specs.Files.{is_before}
use Rattle.gv_base.proofs.FileLemmas.{less-before, same-path, after-flip}
use Rattle.handed_facts.specs.Handed.{Facts}
use Rattle.least.specs.Numbered.{is_marked}
use Rattle.least.specs.Tables.{member}
use Rattle.least.specs.Work.{set_of}
use Rattle.own_functions.specs.Functions.{Named, name_in, functions, names, first_of, nth_name}
use Rattle.own_functions.proofs.NameLemmas.{bytes_same, same_bytes, place_there}
use Rattle.unit_read.specs.Units.{Unit}
use Rattle.vet_printf.specs.declared.printing.Printing.{Printing}
use Rattle.vet_printf.specs.Items.{flags_as, sets_of, is_flagged, kinds_named, fact_named, or_else, IsAdded, is_among, AreFactsTo, AreFactsOf}
use Rattle.vet_printf.specs.Kinds.{kinds_number}
use Rattle.vet_printf.specs.Wraps.{number_of, HasFact}
use Rattle.vet_printf.proofs.HandedLemmas.{fact_there, there_fact}
use Rattle.vet_printf.proofs.ReaderLemmas.{same_some, either}
use Rattle.vet_printf.proofs.TouchLemmas.{any_take}

-- ---- one fact more

filtered : (test : List ℕ → Bool) (table : Facts Wraps) (q : List ℕ) → fact_of (filter (λ (e : List ℕ × Wraps). test e.0) table) q ≡ (if test q then fact_of table q else None)
filtered test [] q = nothing None (test q) refl where
  nothing : (o : Option Wraps) (b : Bool) → o ≡ None → o ≡ (if b then o else None)
  nothing o true e = refl
  nothing o false e = e
filtered test (x ∷ table) q = by (test x.0) refl (bytes_eq x.0 q) refl (filtered test table q) where
  rest : Facts Wraps
  rest = filter (λ (e : List ℕ × Wraps). test e.0) table

  by : (a : Bool) → test x.0 ≡ a → (b : Bool) → bytes_eq x.0 q ≡ b → fact_of rest q ≡ (if test q then fact_of table q else None)
      → fact_of (cond a (x ∷ rest) rest) q ≡ (if test q then (if b then Some x.1 else fact_of table q) else None)
  by true e true f later = ap (λ c. if c then Some x.1 else fact_of rest q) f ∙ sym (ap (λ c. if c then Some x.1 else None) (sym (ap test (same_bytes x.0 q f)) ∙ e))
  by true e false f later = ap (λ c. if c then Some x.1 else fact_of rest q) f ∙ later
  by false e true f later = later ∙ (ap (λ c. if c then fact_of table q else None) (sym (ap test (same_bytes x.0 q f)) ∙ e) ∙ sym (ap (λ c. if c then Some x.1 else None) (sym (ap test (same_bytes x.0 q f)) ∙ e)))
  by false e false f later = later

joined : (xs ys : Facts Wraps) (q : List ℕ) → fact_of (xs ++ ys) q ≡ or_else (fact_of xs q) (fact_of ys q)
joined [] ys q = refl
joined (x ∷ xs) ys q = by (bytes_eq x.0 q) (joined xs ys q) where
  by : (b : Bool) → fact_of (xs ++ ys) q ≡ or_else (fact_of xs q) (fact_of ys q) → (if b then Some x.1 else fact_of (xs ++ ys) q) ≡ or_else (if b then Some x.1 else fact_of xs q) (fact_of ys q)
  by true later = refl
  by false later = later

-- of two other names one stands before the other
total : (p q : List ℕ) → bytes_eq p q ≡ false → (is_before p q ≡ true) ⊎ (is_before q p ≡ true)
total p q apart = by (slice_cmp nat_cmp p q) refl where
  differ : (b : Bool) → b ≡ false → b ≡ true → ⊥
  differ b x y = cc

  by : (r : Ordering) → slice_cmp nat_cmp p q ≡ r → (is_before p q ≡ true) ⊎ (is_before q p ≡ true)
  by Less e = inl (less-before p q e)
  by Equal e = absurd (differ (bytes_eq p q) apart (subst (λ (z : List ℕ). bytes_eq p z ≡ true) (same-path p q e) (bytes_same p)))
  by Greater e = inr (after-flip p q e)

put_is : (table : Facts Wraps) (name : List ℕ) (fact : Wraps) → fact_of table name ≡ None → (q : List ℕ) → fact_of (put_fact table name fact) q ≡ (if bytes_eq name q then or_else (fact_of table q) (Some fact) else fact_of table q)
put_is table name fact none q =
    joined before ((name, fact) ∷ behind) q
    ∙ (ap (λ o. or_else o (fact_of ((name, fact) ∷ behind) q)) (filtered (λ n. is_before n name) table q)
    ∙ (ap (λ o. or_else (if is_before q name then fact_of table q else None) (if bytes_eq name q then Some fact else o)) (filtered (λ n. is_before name n) table q) ∙ by (bytes_eq name q) refl)) where
      before : Facts Wraps
      before = filter (λ (e : List ℕ × Wraps). is_before e.0 name) table

      behind : Facts Wraps
      behind = filter (λ (e : List ℕ × Wraps). is_before name e.0) table

      nothing : (b : Bool) (o p : Option Wraps) → o ≡ None → or_else (if b then o else None) p ≡ or_else o p
      nothing true o p e = refl
      nothing false o p e = ap (λ x. or_else x p) (sym e)

      either_way : (a b : Bool) (o : Option Wraps) → (a ≡ true) ⊎ (b ≡ true) → or_else (if a then o else None) (if b then o else None) ≡ o
      either_way true true None h = refl
      either_way true true (Some f) h = refl
      either_way true false None h = refl
      either_way true false (Some f) h = refl
      either_way false true o h = refl
      either_way false false o (inl e) = absurd (cc)
      either_way false false o (inr e) = absurd (cc)

      swapped : (is_before name q ≡ true) ⊎ (is_before q name ≡ true) → (is_before q name ≡ true) ⊎ (is_before name q ≡ true)
      swapped (inl e) = inr e
      swapped (inr e) = inl e

      by : (b : Bool) → bytes_eq name q ≡ b
          → or_else (if is_before q name then fact_of table q else None) (if b then Some fact else (if is_before name q then fact_of table q else None)) ≡ (if b then or_else (fact_of table q) (Some fact) else fact_of table q)
      by true e = nothing (is_before q name) (fact_of table q) (Some fact) (sym (ap (fact_of table) (same_bytes name q e)) ∙ none)
      by false e = either_way (is_before q name) (is_before name q) (fact_of table q) (swapped (total name q e))

pub added_new : (old new : Facts Wraps) (name : List ℕ) (fact : Wraps) → fact_of old name ≡ None → new ≡ put_fact old name fact → IsAdded name (Some fact) old new
added_new old new name fact none is = record { each = λ q. ap (λ l. fact_of l q) is ∙ put_is old name fact none q }

-- where it has one already
pub added_kept : (table : Facts Wraps) (name : List ℕ) (fact : Wraps) → is_some (fact_of table name) ≡ true → IsAdded name (Some fact) table table
added_kept table name fact has = record { each = λ q. by q (bytes_eq name q) refl } where
  kept : (o : Option Wraps) → is_some o ≡ true → o ≡ or_else o (Some fact)
  kept None e = absurd (cc)
  kept (Some f) e = refl

  by : (q : List ℕ) (b : Bool) → bytes_eq name q ≡ b → fact_of table q ≡ (if b then or_else (fact_of table q) (Some fact) else fact_of table q)
  by q true e = kept (fact_of table q) (sym (ap (λ n. is_some (fact_of table n)) (same_bytes name q e)) ∙ has)
  by q false e = refl

pub added_none : (table : Facts Wraps) (name : List ℕ) → IsAdded name None table table
added_none table name = record { each = λ q. by q (bytes_eq name q) } where
  kept : (o : Option Wraps) → o ≡ or_else o None
  kept None = refl
  kept (Some f) = refl

  by : (q : List ℕ) (b : Bool) → fact_of table q ≡ (if b then or_else (fact_of table q) None else fact_of table q)
  by q true = kept (fact_of table q)
  by q false = refl

pub none_of : (o : Option Wraps) → is_some o ≡ false → o ≡ None
none_of None e = refl
none_of (Some f) e = absurd (cc)

pub added_as : (a b : List ℕ) (o : Option Wraps) (old new : Facts Wraps) → a ≡ b → IsAdded a o old new → IsAdded b o old new
added_as a b o old new e is = subst (λ (n : List ℕ). IsAdded n o old new) e is

-- ---- all of them

-- the name of a number stands at its place
pub nth_there : (u : Unit) (i : ℕ) (name : List ℕ) → name ≡ nth_name u i → i < length (functions u) → slice_get (names u) i ≡ Some name
nth_there u i name is low = at (functions u) i low ∙ ap (λ (q : List ℕ). Some q) (sym is) where
  at : (xs : List Named) (k : ℕ) → k < length xs → slice_get (map name_in xs) k ≡ Some (option_map_or name_in (slice_get xs k) [])
  at [] k low = absurd (omega (arith, low))
  at (x ∷ xs) zero low = refl
  at (x ∷ xs) (suc k) low = at xs k (omega (arith, low))

module _ (u : Unit) (x : Printing) where
  pub facts_none : (table : Facts Wraps) → table ≡ [] → AreFactsTo u x 0 table
  facts_none table is = record { each = λ q. ap (λ l. fact_of l q) is }

  among_more : (n : ℕ) (name q : List ℕ) → slice_get (names u) n ≡ Some name → is_among (take (n + 1) (names u)) q ≡ (is_among (take n (names u)) q || bytes_eq name q)
  among_more n name q at = any_take (λ y. bytes_eq y q) (names u) n ∙ ap (λ o. is_among (take n (names u)) q || option_map_or (λ y. bytes_eq y q) o false) at

  pub facts_more : (n : ℕ) (name : List ℕ) (old new : Facts Wraps) → slice_get (names u) n ≡ Some name → AreFactsTo u x n old → IsAdded name (fact_named u x name) old new → AreFactsTo u x (n + 1) new
  facts_more n name old new at were put = record {
    each = λ q. (
        put.each q
        ∙ (ap (λ o. if bytes_eq name q then or_else o (fact_named u x name) else o) (were.each q)
        ∙ (by q (is_among (take n (names u)) q) (bytes_eq name q) refl ∙ ap (λ b. if b then fact_named u x q else None) (sym (among_more n name q at))))
        );
  } where
    same : (o : Option Wraps) → or_else o o ≡ o
    same None = refl
    same (Some f) = refl

    by : (q : List ℕ) (a b : Bool) → bytes_eq name q ≡ b → (if b then or_else (if a then fact_named u x q else None) (fact_named u x name) else (if a then fact_named u x q else None)) ≡ (if (a || b) then fact_named u x q else None)
    by q true true e = ap (λ n. or_else (fact_named u x q) (fact_named u x n)) (same_bytes name q e) ∙ same (fact_named u x q)
    by q false true e = ap (fact_named u x) (same_bytes name q e)
    by q true false e = refl
    by q false false e = refl

  -- what is no function's name has no kind
  unnamed : (q : List ℕ) → first_of u q ≡ None → fact_named u x q ≡ None
  unnamed q none = ap (λ o. wraps_numbered (kinds_number (is_marked (set_of x.print.items) o) (is_marked (set_of x.printf.items) o) (is_marked (set_of x.errorf.items) o))) none

  among_first : (q : List ℕ) → is_among (names u) q ≡ false → first_of u q ≡ None
  among_first q e = by (first_of u q) refl where
    at : (xs : List (List ℕ)) (k : ℕ) → slice_get xs k ≡ Some q → list_any (λ y. bytes_eq y q) xs ≡ false → ⊥
    at [] k there none = cc
    at (y ∷ xs) zero there none = first (bytes_eq y q) (ap (λ z. bytes_eq z q) (same_some there) ∙ bytes_same q) none where
      first : (b : Bool) → b ≡ true → (b || list_any (λ z. bytes_eq z q) xs) ≡ false → ⊥
      first true p h = cc
      first false p h = cc
    at (y ∷ xs) (suc k) there none = at xs k there (rest (bytes_eq y q) none) where
      rest : (b : Bool) → (b || list_any (λ z. bytes_eq z q) xs) ≡ false → list_any (λ z. bytes_eq z q) xs ≡ false
      rest true h = absurd (cc)
      rest false h = h

    by : (o : Option ℕ) → first_of u q ≡ o → o ≡ None
    by None is = refl
    by (Some k) is = absurd (at (names u) k (place_there (names u) q k is) e)

  pub facts_all : (n : ℕ) (table : Facts Wraps) → n ≡ length (functions u) → AreFactsTo u x n table → AreFactsOf u x table
  facts_all n table end are = record { each = λ q. are.each q ∙ (ap (λ l. if is_among l q then fact_named u x q else None) whole ∙ by q (is_among (names u) q) refl) } where
    over : (xs : List Named) → length xs ≡ length (map name_in xs)
    over [] = refl
    over (y ∷ xs) = ap (λ k. suc k) (over xs)

    taken : (xs : List (List ℕ)) → take (length xs) xs ≡ xs
    taken [] = refl
    taken (y ∷ xs) = ap (λ l. y ∷ l) (taken xs)

    whole : take n (names u) ≡ names u
    whole = ap (λ k. take k (names u)) (end ∙ over (functions u)) ∙ taken (names u)

    by : (q : List ℕ) (b : Bool) → is_among (names u) q ≡ b → (if b then fact_named u x q else None) ≡ fact_named u x q
    by q true e = refl
    by q false e = sym (unnamed q (among_first q e))

  -- ---- kinds

  abbrev pick : WrapKind → Bool → Bool → Bool → Bool
  pick wrap.Print a b c = a
  pick wrap.Printf a b c = b
  pick wrap.Errorf a b c = c

  fact_kind : (a b c : Bool) (fact : Wraps) (kind : WrapKind) → wraps_numbered (kinds_number a b c) ≡ Some fact → has_kind fact kind ≡ pick kind a b c
  fact_kind true true true fact wrap.Print e = ap (λ f. has_kind f wrap.Print) (sym (same_some e))
  fact_kind true true true fact wrap.Printf e = ap (λ f. has_kind f wrap.Printf) (sym (same_some e))
  fact_kind true true true fact wrap.Errorf e = ap (λ f. has_kind f wrap.Errorf) (sym (same_some e))
  fact_kind true true false fact wrap.Print e = ap (λ f. has_kind f wrap.Print) (sym (same_some e))
  fact_kind true true false fact wrap.Printf e = ap (λ f. has_kind f wrap.Printf) (sym (same_some e))
  fact_kind true true false fact wrap.Errorf e = ap (λ f. has_kind f wrap.Errorf) (sym (same_some e))
  fact_kind true false true fact wrap.Print e = ap (λ f. has_kind f wrap.Print) (sym (same_some e))
  fact_kind true false true fact wrap.Printf e = ap (λ f. has_kind f wrap.Printf) (sym (same_some e))
  fact_kind true false true fact wrap.Errorf e = ap (λ f. has_kind f wrap.Errorf) (sym (same_some e))
  fact_kind true false false fact wrap.Print e = ap (λ f. has_kind f wrap.Print) (sym (same_some e))
  fact_kind true false false fact wrap.Printf e = ap (λ f. has_kind f wrap.Printf) (sym (same_some e))
  fact_kind true false false fact wrap.Errorf e = ap (λ f. has_kind f wrap.Errorf) (sym (same_some e))
  fact_kind false true true fact wrap.Print e = ap (λ f. has_kind f wrap.Print) (sym (same_some e))
  fact_kind false true true fact wrap.Printf e = ap (λ f. has_kind f wrap.Printf) (sym (same_some e))
  fact_kind false true true fact wrap.Errorf e = ap (λ f. has_kind f wrap.Errorf) (sym (same_some e))
  fact_kind false true false fact wrap.Print e = ap (λ f. has_kind f wrap.Print) (sym (same_some e))
  fact_kind false true false fact wrap.Printf e = ap (λ f. has_kind f wrap.Printf) (sym (same_some e))
  fact_kind false true false fact wrap.Errorf e = ap (λ f. has_kind f wrap.Errorf) (sym (same_some e))
  fact_kind false false true fact wrap.Print e = ap (λ f. has_kind f wrap.Print) (sym (same_some e))
  fact_kind false false true fact wrap.Printf e = ap (λ f. has_kind f wrap.Printf) (sym (same_some e))
  fact_kind false false true fact wrap.Errorf e = ap (λ f. has_kind f wrap.Errorf) (sym (same_some e))
  fact_kind false false false fact kind e = absurd (cc)

  numbered_some : (a b c : Bool) (kind : WrapKind) → pick kind a b c ≡ true → (fact : Wraps) × (wraps_numbered (kinds_number a b c) ≡ Some fact)
  numbered_some true true true kind e = (_, refl)
  numbered_some true true false kind e = (_, refl)
  numbered_some true false true kind e = (_, refl)
  numbered_some true false false kind e = (_, refl)
  numbered_some false true true kind e = (_, refl)
  numbered_some false true false kind e = (_, refl)
  numbered_some false false true kind e = (_, refl)
  numbered_some false false false wrap.Print e = absurd (cc)
  numbered_some false false false wrap.Printf e = absurd (cc)
  numbered_some false false false wrap.Errorf e = absurd (cc)

  -- a member is in the set where the first of its name is flagged
  set_is : (kind : WrapKind) (name : List ℕ) → sets_of u x kind (member u.path name (number_of kind)) ≡ pick kind (is_flagged u x.print.items name) (is_flagged u x.printf.items name) (is_flagged u x.errorf.items name)
  set_is wrap.Print name = ap (λ b. is_marked (set_of x.print.items) (if b then first_of u name else None)) (bytes_same u.path)
  set_is wrap.Printf name = ap (λ b. is_marked (set_of x.printf.items) (if b then first_of u name else None)) (bytes_same u.path)
  set_is wrap.Errorf name = ap (λ b. is_marked (set_of x.errorf.items) (if b then first_of u name else None)) (bytes_same u.path)

  -- the table has for each name its kinds
  pub facts_told : (table : Facts Wraps) → AreInOrder table → AreFactsOf u x table → (name : List ℕ) (kind : WrapKind) → HasFact table name kind ↔ (sets_of u x kind (member u.path name (number_of kind)) ≡ true)
  facts_told table ordered are name kind = (
    λ (fact, there, has). (
        let e : fact_named u x name ≡ Some fact = sym (are.each name) ∙ there_fact table name fact ordered there in
        set_is kind name ∙ (sym (fact_kind a b c fact kind e) ∙ has)
        ),
    λ e. (
        let p : pick kind a b c ≡ true = sym (set_is kind name) ∙ e in
        let (fact, is) = numbered_some a b c kind p in
        (fact, fact_there table name fact (are.each name ∙ is), fact_kind a b c fact kind is ∙ p)
        ),
  ) where
    a : Bool
    a = is_flagged u x.print.items name

    b : Bool
    b = is_flagged u x.printf.items name

    c : Bool
    c = is_flagged u x.errorf.items name
