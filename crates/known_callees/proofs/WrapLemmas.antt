-- The functions of a package that print, as members: those of each kind are a set of their own, and all three are one set.
use Rattle.std.proofs.Common.{◌≡◌, inl, inr, ◌+◌, ◌++◌, ℕ, ◌==◌, ◌&&◌, ◌||◌, Bool, true, false, if◌then◌else◌, List, [], ◌∷◌, refl, sym, ◌∙◌, subst, arith, eq-eqb}
use Rattle.std.specs.List.{Contains}
use Rattle.std.specs.Str.{bytes_eq}
use Rattle.std.specs.Prelude.{codes}
use Rattle.std.proofs.lemmas.List.Elements.{Contains-append_left, Contains-append_right, Contains-append_cases, Contains-push}
use Rattle.fact_codec.specs.declared.wraps.WrapKind.{WrapKind}
use Rattle.fact_codec.specs.declared.wraps.WrapKind.TheVariants as wrap
use Rattle.fact_codec.specs.declared.wraps.Wraps.{Wraps}
use Rattle.fact_codec.specs.Kinds.{has_kind, wraps_spelling}
use Rattle.fact_codec.specs.WrapLaws.{wraps_read}
use Rattle.fact_codec.proofs.TextLemmas.{spelled_is_read}
use Rattle.handed_facts.specs.Handed.{Named, Facts, entry, entries_of}
use Rattle.least.specs.Least.{IsMonotone}
use Rattle.least.specs.Staged.{Sees, with_given, IsClosedIn, IsLeastIn}
use Rattle.least.specs.Tables.{Member, member, home, Entry}
use Rattle.own_functions.proofs.NameLemmas.{both_true, same_number}
use Rattle.own_functions.specs.Functions.{declared_at}
use Rattle.typed_marks.specs.declared.item.Item.{Item}
use Rattle.typed_marks.specs.Meanings.{Meaning}
use Rattle.unit_read.specs.Units.{Unit, nodes_at}
use Rattle.vet_words.specs.Forms.{bare}
use Rattle.vet_printf.specs.Forwards.{Forwards, hands_rest, hands_format, is_fmt_print, is_fmt_printf, is_log_print, is_log_printf, is_fmt_name, is_log_name, is_listed_name, is_listed, takes_named, listed_in}
use Rattle.vet_printf.specs.Wrappers.{Admits, Has, SeeTheirCallees}
use Rattle.vet_printf.specs.Wraps.{number_of, kind_if, kinds_of, AdmitsAs, HasFact, IsWrapsText}
use Rattle.vet_printf.proofs.WrapperLemmas.{local, monotone}
use Rattle.known_callees.specs.Seen.{IsSeen, env_of}
use Rattle.known_callees.specs.Telling.{TellsLeast, IsLeastText}
use Rattle.known_callees.proofs.CalleeLemmas.{named_seen}
use Rattle.known_callees.proofs.EntryLemmas.{ReadsOnce, entry_fact, fact_entry, none_in, single_is}
use Rattle.known_callees.proofs.ToldLemmas.{AreGivenApart, AreGivenBeside, MovesOwn, TellEach, found_least}
use Rattle.known_callees.proofs.Words.{both_so, same_some}

pub wraps_once : ReadsOnce wraps_spelling
wraps_once text a b p q = same_some a b (sym (spelled_is_read wraps_read text a p) ∙ spelled_is_read wraps_read text b q)

-- ---- kinds

-- a number is that of a kind
abbrev pub IsKind : ℕ → Type 0
IsKind n = (kind : WrapKind) × (n ≡ number_of kind)

pub same_kind : (a b : WrapKind) → number_of a ≡ number_of b → a ≡ b
same_kind wrap.Print wrap.Print e = refl
same_kind wrap.Print wrap.Printf e = absurd (omega (arith, e))
same_kind wrap.Print wrap.Errorf e = absurd (omega (arith, e))
same_kind wrap.Printf wrap.Print e = absurd (omega (arith, e))
same_kind wrap.Printf wrap.Printf e = refl
same_kind wrap.Printf wrap.Errorf e = absurd (omega (arith, e))
same_kind wrap.Errorf wrap.Print e = absurd (omega (arith, e))
same_kind wrap.Errorf wrap.Printf e = absurd (omega (arith, e))
same_kind wrap.Errorf wrap.Errorf e = refl

no_kind : (n : ℕ) → false ≡ true → IsKind n
no_kind n e = absurd (cc)

-- where a test of a number goes by one kind, and by others
kind_or : (kind : WrapKind) (n : ℕ) (here others : Bool) → (others ≡ true → IsKind n) → (if n == number_of kind then here else others) ≡ true → IsKind n
kind_or kind n here others later e = by (n == number_of kind) refl e where
  by : (b : Bool) → (n == number_of kind) ≡ b → (if b then here else others) ≡ true → IsKind n
  by true same e = (kind, same_number n (number_of kind) same)
  by false other e = later e

fmt_kind : (n : ℕ) (name : List ℕ) → is_fmt_name n name ≡ true → IsKind n
fmt_kind n name e =
    kind_or wrap.Print n (is_fmt_print name) (if n == 2 then is_fmt_printf name else (if n == 4 then bytes_eq name (codes "Errorf") else false))
    (kind_or wrap.Printf n (is_fmt_printf name) (if n == 4 then bytes_eq name (codes "Errorf") else false) (kind_or wrap.Errorf n (bytes_eq name (codes "Errorf")) false (no_kind n))) e

log_kind : (n : ℕ) (name : List ℕ) → is_log_name n name ≡ true → IsKind n
log_kind n name e = kind_or wrap.Print n (is_log_print name) (if n == 2 then is_log_printf name else false) (kind_or wrap.Printf n (is_log_printf name) false (no_kind n)) e

listed_kind : (path : List ℕ) (n : ℕ) (name : List ℕ) → is_listed_name path n name ≡ true → IsKind n
listed_kind path n name e = by (bytes_eq path (codes "fmt")) (bytes_eq path (codes "log")) e where
  by : (b c : Bool) → (if b then is_fmt_name n name else (if c then is_log_name n name else false)) ≡ true → IsKind n
  by true c e = fmt_kind n name e
  by false true e = log_kind n name e
  by false false e = no_kind n e

-- what hands on has a kind
hands_kind : (n : ℕ) (rest format : Bool) → (if n == 1 then rest else (((n == 2) || (n == 4)) && format)) ≡ true → IsKind n
hands_kind n rest format e = kind_or wrap.Print n rest (((n == 2) || (n == 4)) && format) (λ e. by (n == 2) refl (n == 4) refl (both_true ((n == 2) || (n == 4)) format e).0) e where
  by : (b : Bool) → (n == 2) ≡ b → (c : Bool) → (n == 4) ≡ c → (b || c) ≡ true → IsKind n
  by true two c four e = (wrap.Printf, same_number n 2 two)
  by false two true four e = (wrap.Errorf, same_number n 4 four)
  by false two false four e = no_kind n e

-- ---- facts of names

in_kind_if : (fact : Wraps) (kind : WrapKind) (n : ℕ) → Contains (kind_if fact kind) n → (n ≡ number_of kind) × (has_kind fact kind ≡ true)
in_kind_if fact kind n there = by (has_kind fact kind) refl there where
  by : (b : Bool) → has_kind fact kind ≡ b → Contains (if b then number_of kind ∷ [] else []) n → (n ≡ number_of kind) × (has_kind fact kind ≡ true)
  by true has there = (sym (single_is (number_of kind) n there), has)
  by false has there = none_in n there

kind_if_has : (fact : Wraps) (kind : WrapKind) → has_kind fact kind ≡ true → Contains (kind_if fact kind) (number_of kind)
kind_if_has fact kind has = subst (λ (b : Bool). Contains (if b then number_of kind ∷ [] else []) (number_of kind)) (sym has) (Contains-push [] (number_of kind))

abbrev IsKindOf : Wraps → ℕ → Type 0
IsKindOf fact n = (kind : WrapKind) × (n ≡ number_of kind) × (has_kind fact kind ≡ true)

in_kinds : (fact : Wraps) (n : ℕ) → Contains (kinds_of fact) n → IsKindOf fact n
in_kinds fact n there = elim (Contains-append_cases (kind_if fact wrap.Print) (kind_if fact wrap.Printf ++ kind_if fact wrap.Errorf) n there) [
  | inl here ↦ of wrap.Print here
  | inr later ↦ elim (Contains-append_cases (kind_if fact wrap.Printf) (kind_if fact wrap.Errorf) n later) [ inl here ↦ of wrap.Printf here | inr last ↦ of wrap.Errorf last ]
] where
  of : (kind : WrapKind) → Contains (kind_if fact kind) n → IsKindOf fact n
  of kind here = let r = in_kind_if fact kind n here in (kind, r.0, r.1)

kinds_have : (fact : Wraps) (kind : WrapKind) → has_kind fact kind ≡ true → Contains (kinds_of fact) (number_of kind)
kinds_have fact wrap.Print has = Contains-append_left (kind_if fact wrap.Print) (kind_if fact wrap.Printf ++ kind_if fact wrap.Errorf) 1 (kind_if_has fact wrap.Print has)
kinds_have fact wrap.Printf has =
    Contains-append_right (kind_if fact wrap.Print) (kind_if fact wrap.Printf ++ kind_if fact wrap.Errorf) 2 (Contains-append_left (kind_if fact wrap.Printf) (kind_if fact wrap.Errorf) 2 (kind_if_has fact wrap.Printf has))
kinds_have fact wrap.Errorf has =
    Contains-append_right (kind_if fact wrap.Print) (kind_if fact wrap.Printf ++ kind_if fact wrap.Errorf) 4 (Contains-append_right (kind_if fact wrap.Printf) (kind_if fact wrap.Errorf) 4 (kind_if_has fact wrap.Errorf has))

pub fact_named : (table : Facts Wraps) (name : List ℕ) (kind : WrapKind) → HasFact table name kind → Contains (entries_of kinds_of table) (entry name (number_of kind))
fact_named table name kind (fact, there, has) = fact_entry kinds_of table name fact (number_of kind) there (kinds_have fact kind has)

-- an entry has a kind, and the name a fact of it
pub entry_named : (table : Facts Wraps) (e : Entry) → Contains (entries_of kinds_of table) e → (kind : WrapKind) × (e.kind ≡ number_of kind) × HasFact table e.name kind
entry_named table e there =
    let (fact, stands, among) = entry_fact kinds_of table e there in
    let (kind, number, has) = in_kinds fact e.kind among in
    (kind, number, (fact, stands, has))

pub named_entry : (table : Facts Wraps) (name : List ℕ) (kind : WrapKind) → Contains (entries_of kinds_of table) (entry name (number_of kind)) → HasFact table name kind
named_entry table name kind there =
    let (other, number, has) = entry_named table (entry name (number_of kind)) there in
    subst (λ (k : WrapKind). HasFact table name k) (sym (same_kind kind other number)) has

-- ---- to whom functions hand on

pub forwards_seen : (u : Unit) (marks : Item → Meaning) → SeeTheirCallees (Has (env_of u)) (Forwards (declared_at u) u marks)
forwards_seen u marks m g (f, n, h) = to (named_seen u marks f (bare (nodes_at u f) h.callee) (g.path, g.name) h.named) where
  to : IsSeen u g.path → Sees home (Has (env_of u)) (home m) g
  to (inl own) = inl (own ∙ sym h.own)
  to (inr beside) = inr beside

-- ---- one set of three

module _ (u : Unit) (marks : Item → Meaning) where
  -- what is admitted, of whichever kind
  abbrev pub admits : (Member → Bool) → Member → Type 0
  admits = Admits (listed_in (declared_at u) u marks) (Forwards (declared_at u) u marks)

  pub admitted_kind : (N : Member → Bool) (m : Member) → admits N m → IsKind m.kind
  admitted_kind N m (inl listed) =
      listed_kind u.path m.kind m.name (both_true (is_listed_name u.path m.kind m.name) (takes_named (declared_at u) u marks m.kind m.name) (both_true (bytes_eq m.path u.path) (is_listed (declared_at u) u marks m.kind m.name) listed).1).0
  admitted_kind N m (inr (g, (f, n, h), e)) = hands_kind m.kind (hands_rest u marks f h.call h.node) (hands_format u marks f h.call h.node) h.hands_on

  -- it depends on members of its own kind alone
  pub admits_kind : (M N : Member → Bool) (m : Member) → ((g : Member) → g.kind ≡ m.kind → M g ≡ true → N g ≡ true) → admits M m → admits N m
  admits_kind M N m same (inl listed) = inl listed
  admits_kind M N m same (inr (g, (f, n, h), e)) = inr (g, (f, n, h), same g h.kind e)

  module _ (given : List Named) (text : List ℕ) (is : IsWrapsText u marks given text) where
    abbrev as_kind : WrapKind → Member → Bool
    as_kind kind m = (m.kind == number_of kind) && is.sets kind m

    abbrev all : Member → Bool
    all m = as_kind wrap.Print m || (as_kind wrap.Printf m || as_kind wrap.Errorf m)

    abbrev HasKind : Member → WrapKind → Type 0
    HasKind m kind = (m.kind ≡ number_of kind) × (is.sets kind m ≡ true)

    as_has : (kind : WrapKind) (m : Member) → as_kind kind m ≡ true → HasKind m kind
    as_has kind m e = let both = both_true (m.kind == number_of kind) (is.sets kind m) e in (same_number m.kind (number_of kind) both.0, both.1)

    all_has : (m : Member) → all m ≡ true → (kind : WrapKind) × HasKind m kind
    all_has m e = by (as_kind wrap.Print m) refl (as_kind wrap.Printf m) refl e where
      by : (b : Bool) → as_kind wrap.Print m ≡ b → (c : Bool) → as_kind wrap.Printf m ≡ c → (b || (c || as_kind wrap.Errorf m)) ≡ true → (kind : WrapKind) × HasKind m kind
      by true one c two e = (wrap.Print, as_has wrap.Print m one)
      by false one true two e = (wrap.Printf, as_has wrap.Printf m two)
      by false one false two e = (wrap.Errorf, as_has wrap.Errorf m e)

    any_first : (a b : Bool) → a ≡ true → (a || b) ≡ true
    any_first true b e = refl
    any_first false b e = absurd (cc)

    any_later : (a b : Bool) → b ≡ true → (a || b) ≡ true
    any_later true b e = refl
    any_later false b e = e

    has_as : (kind : WrapKind) (m : Member) → m.kind ≡ number_of kind → is.sets kind m ≡ true → as_kind kind m ≡ true
    has_as kind m number has = both_so (m.kind == number_of kind) (is.sets kind m) (eq-eqb m.kind (number_of kind) number) has

    has_all : (kind : WrapKind) (m : Member) → m.kind ≡ number_of kind → is.sets kind m ≡ true → all m ≡ true
    has_all wrap.Print m number has = any_first (as_kind wrap.Print m) (as_kind wrap.Printf m || as_kind wrap.Errorf m) (has_as wrap.Print m number has)
    has_all wrap.Printf m number has =
        any_later (as_kind wrap.Print m) (as_kind wrap.Printf m || as_kind wrap.Errorf m) (any_first (as_kind wrap.Printf m) (as_kind wrap.Errorf m) (has_as wrap.Printf m number has))
    has_all wrap.Errorf m number has =
        any_later (as_kind wrap.Print m) (as_kind wrap.Printf m || as_kind wrap.Errorf m) (any_later (as_kind wrap.Printf m) (as_kind wrap.Errorf m) (has_as wrap.Errorf m number has))

    -- ---- an admission of one kind, and of all

    to_kind : (kind : WrapKind) (N : Member → Bool) (m : Member) → m.kind ≡ number_of kind → admits N m → AdmitsAs kind u marks is.are.forwards N m
    to_kind kind N m number (inl listed) = inl (both_so (m.kind == number_of kind) (listed_in (declared_at u) u marks m) (eq-eqb m.kind (number_of kind) number) listed)
    to_kind kind N m number (inr (g, there, e)) =
        inr (g, subst (λ (b : Bool). Contains (if b then is.are.forwards m else []) g) (sym (eq-eqb m.kind (number_of kind) number)) ((is.are.are_forwards.each m g).1 there), e)

    of_kind : (kind : WrapKind) (N : Member → Bool) (m : Member) → AdmitsAs kind u marks is.are.forwards N m → admits N m
    of_kind kind N m (inl listed) = inl (both_true (m.kind == number_of kind) (listed_in (declared_at u) u marks m) listed).1
    of_kind kind N m (inr (g, there, e)) = inr (g, (is.are.are_forwards.each m g).0 (by (m.kind == number_of kind) there), e) where
      by : (b : Bool) → Contains (if b then is.are.forwards m else []) g → Contains (is.are.forwards m) g
      by true there = there
      by false there = none_in g there

    -- what is there of all is there of the kind
    with_kind : (kind : WrapKind) (g : Member) → g.kind ≡ number_of kind → with_given is.handed all g ≡ true → with_given is.handed (is.sets kind) g ≡ true
    with_kind kind g number e = by (is.handed g) e where
      by : (b : Bool) → (if b then true else all g) ≡ true → (if b then true else is.sets kind g) ≡ true
      by true e = refl
      by false e = let (other, (same, has)) = all_has g e in subst (λ (k : WrapKind). is.sets k g ≡ true) (same_kind other kind (sym same ∙ number)) has

    all_closed : IsClosedIn home admits u.path is.handed all
    all_closed m own admitted =
        let (kind, number) = admitted_kind (with_given is.handed all) m admitted in
        let here : admits (with_given is.handed (is.sets kind)) m =
        admits_kind (with_given is.handed all) (with_given is.handed (is.sets kind)) m (λ g same e. with_kind kind g (same ∙ number) e) admitted in
        has_all kind m number ((is.are.least kind).closed m own (to_kind kind (with_given is.handed (is.sets kind)) m number here))

    all_least : IsLeastIn home admits u.path is.handed all
    all_least = record {
      inside = λ m e. let (kind, (number, has)) = all_has m e in (is.are.least kind).inside m has;
      closed = all_closed;
      least = λ M closed m e.
          let (kind, (number, has)) = all_has m e in
          (is.are.least kind).least M (λ f own admitted. closed f own (of_kind kind (with_given is.handed M) f admitted)) m has;
    }

    least_text : IsLeastText wraps_spelling kinds_of admits u.path given text
    least_text = record {
      handed = is.handed;
      are_handed = is.are.are_handed;
      set = all;
      least = all_least;
      table = is.table;
      spelled = is.spelled;
      each = λ e. (
        λ there. (
            let (kind, number, has) = entry_named is.table e there in
            has_all kind (member u.path e.name e.kind) number (subst (λ (k : ℕ). is.sets kind (member u.path e.name k) ≡ true) (sym number) ((is.each e.name kind).0 has))
            ),
        λ h. (
            let (kind, (number, has)) = all_has (member u.path e.name e.kind) h in
            subst (λ (k : ℕ). Contains (entries_of kinds_of is.table) (entry e.name k)) (sym number)
            (fact_named is.table e.name kind ((is.each e.name kind).1 (subst (λ (k : ℕ). is.sets kind (member u.path e.name k) ≡ true) number has)))
            ),
      );
    }

    -- over what is told of the packages of the environment, the text tells the least set of the package
    pub wraps_least : (whole : (Member → Bool) → Member → Type 0) → IsMonotone whole → MovesOwn u admits whole → MovesOwn u whole admits → TellEach wraps_spelling kinds_of whole given → AreGivenBeside u given → AreGivenApart u given
        → TellsLeast wraps_spelling kinds_of whole u.path text
    wraps_least whole grows to back below beside apart =
        found_least wraps_spelling kinds_of wraps_once whole grows u admits (monotone (listed_in (declared_at u) u marks) (Forwards (declared_at u) u marks))
        (local (Has (env_of u)) (listed_in (declared_at u) u marks) (Forwards (declared_at u) u marks) (forwards_seen u marks)) to back given below beside apart text least_text
