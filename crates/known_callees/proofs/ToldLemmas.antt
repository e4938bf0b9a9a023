-- What is found of a package over what is told of the packages of its environment is the least set.
use Rattle.std.proofs.Common.{◌≡◌, inl, inr, ℕ, Bool, true, false, if◌then◌else◌, List, length, Some, slice_get, refl, sym, ap, ◌∙◌, subst}
use Rattle.std.specs.List.{Contains}
use Rattle.std.specs.Str.{bytes_eq}
use Rattle.std.proofs.lemmas.Option.{slice_get_within}
use Rattle.handed_facts.specs.Handed.{Named, Facts, entry, entries_of}
use Rattle.least.specs.Least.{IsClosed, IsWithin, IsMonotone}
use Rattle.least.specs.Staged.{Sees, IsLocal, with_given}
use Rattle.least.specs.Tables.{Member, member, home, Entry, Table}
use Rattle.never_returns.specs.Admits.{Has}
use Rattle.own_functions.proofs.NameLemmas.{bytes_same, same_bytes}
use Rattle.unit_read.specs.Units.{Unit}
use Rattle.known_callees.specs.Seen.{is_beside, env_of}
use Rattle.known_callees.specs.Telling.{TellsLeast, IsLeastText}
use Rattle.known_callees.proofs.EntryLemmas.{ReadsOnce, placed_table, table_placed, table_with, told_is}
use Rattle.known_callees.proofs.MeetLemmas.{met}
use Rattle.known_callees.proofs.Words.{element}

same_bool : (a b : Bool) → (a ≡ true → b ≡ true) → (b ≡ true → a ≡ true) → a ≡ b
same_bool true b f g = sym (f refl)
same_bool false true f g = g refl
same_bool false false f g = refl

not_so : (a : Bool) → (a ≡ true → ⊥) → a ≡ false
not_so true no_a = absurd (no_a refl)
not_so false no_a = refl

either_bool : {C : Type 0} (b : Bool) → (b ≡ true → C) → (b ≡ false → C) → C
either_bool true f g = f refl
either_bool false f g = g refl

-- of each package that the unit sees a text is given
abbrev pub AreGivenBeside : Unit → List Named → Type 0
AreGivenBeside u given = (q : List ℕ) → is_beside u q ≡ true → (k : ℕ) × (x : Named) × (slice_get given k ≡ Some x) × (x.0 ≡ q)

-- and none of the unit's own
abbrev pub AreGivenApart : Unit → List Named → Type 0
AreGivenApart u given = (k : ℕ) (x : Named) → slice_get given k ≡ Some x → x.0 ≡ u.path → ⊥

-- each tells the least set of its package
abbrev pub TellEach : {F : Type 0} → (F → List ℕ) → (F → List ℕ) → ((Member → Bool) → Member → Type 0) → List Named → Type 0
TellEach spelling kinds whole given = (k : ℕ) (x : Named) → slice_get given k ≡ Some x → TellsLeast spelling kinds whole x.0 x.1

-- what is admitted of the unit's functions by the one is admitted by the other
abbrev pub MovesOwn : Unit → ((Member → Bool) → Member → Type 0) → ((Member → Bool) → Member → Type 0) → Type 0
MovesOwn u admits other = (N : Member → Bool) (m : Member) → m.path ≡ u.path → admits N m → other N m

module _ {F : Type 0} (spelling kinds : F → List ℕ) (once : ReadsOnce spelling) (whole : (Member → Bool) → Member → Type 0) (grows : IsMonotone whole) (u : Unit)
    (admits : (Member → Bool) → Member → Type 0) (monotone : IsMonotone admits) (local : IsLocal home (Has (env_of u)) admits) (to : MovesOwn u admits whole) (back : MovesOwn u whole admits)
    (given : List Named) (below : TellEach spelling kinds whole given) (beside : AreGivenBeside u given) (apart : AreGivenApart u given) (text : List ℕ) (is : IsLeastText spelling kinds admits u.path given text) where
  -- ---- what is handed in

  table_is : (k : ℕ) (x : Named) (t : Facts F) (e : slice_get given k ≡ Some x) → slice_get is.are_handed.tables k ≡ Some t → t ≡ (below k x e).table
  table_is k x t e there = told_is spelling once x.1 t (below k x e).table (is.are_handed.told.each k t there x e) (below k x e).spelled

  -- what is handed in is told of a package of the environment
  record IsHanded (m : Member) : Type 0 where
    pub k : ℕ
    pub x : Named
    pub there : slice_get given k ≡ Some x
    pub path : m.path ≡ x.0
    pub named : Contains (entries_of kinds (below k x there).table) (entry m.name m.kind)

  handed_is : (m : Member) → is.handed m ≡ true → IsHanded m
  handed_is m h =
      let t = (is.are_handed.are m).0 h in
      let p = table_placed kinds given is.are_handed.tables t.table t.here in
      let listed : Contains (entries_of kinds p.table) t.entry = subst (λ (z : Table). Contains z.entries t.entry) p.is t.listed in
      let same : t.entry ≡ entry m.name m.kind = ap (λ (z : Member). entry z.name z.kind) t.is in
      record {
        k = p.k;
        x = p.x;
        there = p.there;
        path = sym (ap (λ (z : Member). z.path) t.is) ∙ ap (λ (z : Table). z.path) p.is;
        named = subst (λ (z : Facts F). Contains (entries_of kinds z) (entry m.name m.kind)) (table_is p.k p.x p.table p.there p.told) (subst (λ (e : Entry). Contains (entries_of kinds p.table) e) same listed);
      }

  is_handed : (m : Member) → IsHanded m → is.handed m ≡ true
  is_handed m h =
      let size = is.are_handed.told.size in
      let (t, told) = element is.are_handed.tables given h.k h.x size h.there in
      (is.are_handed.are m).1 (record {
        table = table_with kinds h.x.0 t;
        entry = entry m.name m.kind;
        here = placed_table kinds given is.are_handed.tables h.k h.x t h.there told;
        listed = subst (λ (z : Facts F). Contains (entries_of kinds z) (entry m.name m.kind)) (sym (table_is h.k h.x t h.there told)) h.named;
        is = ap (λ (p : List ℕ). member p m.name m.kind) (sym h.path);
      })

  -- each that is handed in is in every closed set
  handed_within : (M : Member → Bool) → IsClosed whole M → (m : Member) → is.handed m ≡ true → M m ≡ true
  handed_within M all m h =
      let r = handed_is m h in
      let there : M (member r.x.0 m.name m.kind) ≡ true = (below r.k r.x r.there).within M all (entry m.name m.kind) r.named in
      subst (λ (z : Member). M z ≡ true) (ap (λ (p : List ℕ). member p m.name m.kind) (sym r.path)) there

  handed_apart : (m : Member) → m.path ≡ u.path → is.handed m ≡ false
  handed_apart m own = not_so (is.handed m) (λ h. let r = handed_is m h in apart r.k r.x r.there (sym r.path ∙ own))

  -- ---- what is found

  with_within : (M : Member → Bool) → IsClosed whole M → IsWithin (with_given is.handed M) M
  with_within M all m e = by (is.handed m) refl e where
    by : (b : Bool) → is.handed m ≡ b → (if b then true else M m) ≡ true → M m ≡ true
    by true h e = handed_within M all m h
    by false h e = e

  -- it is in every closed set
  found_within : (M : Member → Bool) → IsClosed whole M → IsWithin is.set M
  found_within M all = is.least.least M (λ f own admitted. all f (to M f own (monotone (with_given is.handed M) M f (with_within M all) admitted)))

  -- ---- what is found, and what is known of others

  module _ (N : Member → Bool) (closed : IsClosed whole N) (exact : (k : ℕ) (x : Named) (e : slice_get given k ≡ Some x) (m : Member) → m.path ≡ x.0 → N m ≡ true → Contains (entries_of kinds (below k x e).table) (entry m.name m.kind)) where
    abbrev set_here : Member → Bool
    set_here m = if bytes_eq m.path u.path then is.set m else N m

    here_is : (m : Member) → m.path ≡ u.path → set_here m ≡ is.set m
    here_is m own = ap (λ (b : Bool). if b then is.set m else N m) (subst (λ (p : List ℕ). bytes_eq p u.path ≡ true) (sym own) (bytes_same u.path))

    there_is : (m : Member) → (m.path ≡ u.path → ⊥) → set_here m ≡ N m
    there_is m other = ap (λ (b : Bool). if b then is.set m else N m) (not_so (bytes_eq m.path u.path) (λ e. other (same_bytes m.path u.path e)))

    within_N : IsWithin set_here N
    within_N m e = either_bool (bytes_eq m.path u.path)
        (λ own. found_within N closed m (sym (here_is m (same_bytes m.path u.path own)) ∙ e))
        (λ other. sym (ap (λ (b : Bool). if b then is.set m else N m) other) ∙ e)

    -- seen from the package, it is what was handed in and what was found
    seen_same : (m : Member) → Sees home (Has (env_of u)) u.path m → set_here m ≡ with_given is.handed is.set m
    seen_same m (inl own) = here_is m own ∙ sym (ap (λ (b : Bool). if b then true else is.set m) (handed_apart m own))
    seen_same m (inr near) =
        let (k, x, there, path) = beside m.path near in
        let other : m.path ≡ u.path → ⊥ = λ own. apart k x there (path ∙ own) in
        there_is m other ∙ (known k x there (sym path) ∙ sym (none_found other))
      where
        none_found : (m.path ≡ u.path → ⊥) → with_given is.handed is.set m ≡ is.handed m
        none_found other = by (is.handed m) (is.set m) (not_so (is.set m) (λ e. other (is.least.inside m e))) where
          by : (b c : Bool) → c ≡ false → (if b then true else c) ≡ b
          by true c e = refl
          by false c e = e

        known : (k : ℕ) (x : Named) → slice_get given k ≡ Some x → m.path ≡ x.0 → N m ≡ is.handed m
        known k x there path = same_bool (N m) (is.handed m)
            (λ e. is_handed m (record { k = k; x = x; there = there; path = path; named = exact k x there m path e }))
            (λ h. handed_within N closed m h)

    here_closed : IsClosed whole set_here
    here_closed m w = either_bool (bytes_eq m.path u.path)
        (λ own.
        let path : m.path ≡ u.path = same_bytes m.path u.path own in
        let seen : admits (with_given is.handed is.set) m =
        local set_here (with_given is.handed is.set) m (λ g sees. seen_same g (subst (λ (p : List ℕ). Sees home (Has (env_of u)) p g) path sees)) (back set_here m path w) in
        here_is m path ∙ is.least.closed m path seen)
        (λ other. ap (λ (b : Bool). if b then is.set m else N m) other ∙ closed m (grows set_here N m within_N w))

    -- the text tells the least set of the package
    tells_least : TellsLeast spelling kinds whole u.path text
    tells_least = record {
      table = is.table;
      spelled = is.spelled;
      within = λ M all e there. found_within M all (member u.path e.name e.kind) ((is.each e).0 there);
      set = set_here;
      closed = here_closed;
      only = λ m path e.
          let found : is.set m ≡ true = sym (here_is m path) ∙ e in
          (is.each (entry m.name m.kind)).1 (subst (λ (z : Member). is.set z ≡ true) (ap (λ (p : List ℕ). member p m.name m.kind) path) found);
    }

  -- over whatever closed set meets the texts of the packages of the environment
  pub found_least : TellsLeast spelling kinds whole u.path text
  found_least =
      let all = met spelling kinds once whole grows given below (length given) in
      tells_least all.set all.closed (λ k x e m path there. all.exact k x e (slice_get_within given k x e) m path there)
