-- The functions of a package that never return, as members: they have the kind 0.
use Rattle.std.proofs.Common.{◌≡◌, ℕ, zero, suc, ◌==◌, ◌&&◌, Bool, true, false, if◌then◌else◌, List, [], ◌∷◌, map, Option, refl, sym, ap, ◌∙◌, subst, arith}
use Rattle.std.specs.List.{Contains}
use Rattle.fact_codec.specs.UnitLaws.{one_byte_read}
use Rattle.fact_codec.specs.declared.units.Never.{Never}
use Rattle.fact_codec.proofs.TextLemmas.{spelled_is_read}
use Rattle.handed_facts.specs.Handed.{Named, Facts, entry, entries_of}
use Rattle.least.specs.Least.{IsWithin, IsMonotone}
use Rattle.least.specs.Staged.{IsLocal, with_given}
use Rattle.least.specs.Tables.{Member, member, home, Entry}
use Rattle.never_returns.specs.Admits.{Body, Admits, Has, SeeTheirCallees}
use Rattle.own_functions.proofs.NameLemmas.{both_true, same_number}
use Rattle.typed_marks.specs.declared.item.Item.{Item}
use Rattle.typed_marks.specs.Meanings.{Meaning}
use Rattle.unit_read.specs.Units.{Unit}
use Rattle.vet_never.specs.Listed.{listed_in}
use Rattle.vet_never.specs.Never.{Around, bodies_in, IsAround, spelling, kinds, fact_name, IsNeverText}
use Rattle.known_callees.specs.Seen.{env_of}
use Rattle.known_callees.specs.Telling.{TellsLeast, IsLeastText}
use Rattle.known_callees.proofs.CalleeLemmas.{admitted_own, callees_seen, own_member}
use Rattle.known_callees.proofs.EntryLemmas.{ReadsOnce, none_in}
use Rattle.known_callees.proofs.ToldLemmas.{AreGivenApart, AreGivenBeside, MovesOwn, TellEach, found_least}
use Rattle.known_callees.proofs.Words.{same_some}

-- the laws of `never_returns`, as a caller of them has them
pub record AdmitLaws : Type 0 where
  pub grows : (listed : Member → Bool) (bodies : Member → Option Body) → IsMonotone (Admits listed bodies)
  pub local : (env : List ℕ → List ℕ → Bool) (listed : Member → Bool) (bodies : Member → Option Body) → SeeTheirCallees (Has env) bodies → IsLocal home (Has env) (Admits listed bodies)

pub never_once : ReadsOnce spelling
never_once text a b p q = same_some a b (sym (spelled_is_read (one_byte_read 110 (record {}) (λ fact. refl)) text a p) ∙ spelled_is_read (one_byte_read 110 (record {}) (λ fact. refl)) text b q)

-- ---- entries

pub entries_named : (table : Facts Never) (e : Entry) → Contains (entries_of kinds table) e → (e.kind ≡ 0) × Contains (map fact_name table) e.name
entries_named [] e there = none_in e there
entries_named (x ∷ table) e (zero, low, at) = (sym (ap (λ (y : Entry). y.kind) at), (zero, omega arith, ap (λ (y : Entry). y.name) at))
entries_named (x ∷ table) e (suc k, low, at) =
    let (kind, (j, under, is)) = entries_named table e (k, omega (arith, low), at) in
    (kind, (suc j, omega (arith, under), is))

pub named_entry : (table : Facts Never) (name : List ℕ) → Contains (map fact_name table) name → Contains (entries_of kinds table) (entry name 0)
named_entry [] name there = none_in name there
named_entry (x ∷ table) name (zero, low, at) = (zero, omega arith, ap (λ (n : List ℕ). entry n 0) at)
named_entry (x ∷ table) name (suc k, low, at) =
    let (j, under, is) = named_entry table name (k, omega (arith, low), at) in
    (suc j, omega (arith, under), is)

module _ (laws : AdmitLaws) (u : Unit) (marks : Item → Meaning) (given : List Named) (text : List ℕ) (is : IsNeverText u marks given text) where
  abbrev a : Around
  a = is.are.around

  abbrev handed : Member → Bool
  handed = is.are.handed

  abbrev admits : (Member → Bool) → Member → Type 0
  admits = Admits (listed_in u) (bodies_in u a)

  abbrev plain : Member → Bool
  plain f = is.set f && (f.kind == 0)

  plain_within : IsWithin (with_given handed plain) (with_given handed is.set)
  plain_within m e = by (handed m) e where
    by : (b : Bool) → (if b then true else plain m) ≡ true → (if b then true else is.set m) ≡ true
    by true e = refl
    by false e = (both_true (is.set m) (m.kind == 0) e).0

  plain_closed : (f : Member) → home f ≡ u.path → admits (with_given handed plain) f → plain f ≡ true
  plain_closed f own admitted =
      let found : is.set f ≡ true = is.are.least.closed f own (laws.grows (listed_in u) (bodies_in u a) (with_given handed plain) (with_given handed is.set) f plain_within admitted) in
      let kind : f.kind ≡ 0 = (own_member u f (admitted_own u a (with_given handed plain) f admitted)).0 in
      ap (λ (b : Bool). b && (f.kind == 0)) found ∙ ap (λ (n : ℕ). n == 0) kind

  -- what is found has no member of another kind
  found_kind : (m : Member) → is.set m ≡ true → m.kind ≡ 0
  found_kind m e = same_number m.kind 0 (both_true (is.set m) (m.kind == 0) (is.are.least.least plain plain_closed m e)).1

  least_text : IsLeastText spelling kinds admits u.path given text
  least_text = record {
    handed = handed;
    are_handed = is.are.are_handed;
    set = is.set;
    least = is.are.least;
    table = is.table;
    spelled = is.spelled;
    each = λ e. (
      λ there. (
          let r = entries_named is.table e there in
          subst (λ (k : ℕ). is.set (member u.path e.name k) ≡ true) (sym r.0) ((is.each e.name).0 r.1)
          ),
      λ h. (
          let kind : e.kind ≡ 0 = found_kind (member u.path e.name e.kind) h in
          subst (λ (k : ℕ). Contains (entries_of kinds is.table) (entry e.name k)) (sym kind)
          (named_entry is.table e.name ((is.each e.name).1 (subst (λ (k : ℕ). is.set (member u.path e.name k) ≡ true) kind h)))
          ),
    );
  }

  -- over what is told of the packages of the environment, the text tells the least set of the package
  pub never_least : (whole : (Member → Bool) → Member → Type 0) → IsMonotone whole → ((b : Around) → IsAround u marks b → MovesOwn u (Admits (listed_in u) (bodies_in u b)) whole)
      → ((b : Around) → IsAround u marks b → MovesOwn u whole (Admits (listed_in u) (bodies_in u b))) → TellEach spelling kinds whole given → AreGivenBeside u given → AreGivenApart u given → TellsLeast spelling kinds whole u.path text
  never_least whole grows to back below beside apart =
      found_least spelling kinds never_once whole grows u admits (laws.grows (listed_in u) (bodies_in u a)) (laws.local (env_of u) (listed_in u) (bodies_in u a) (callees_seen u marks a is.are.is_around))
      (to a is.are.is_around) (back a is.are.is_around) given below beside apart text least_text
