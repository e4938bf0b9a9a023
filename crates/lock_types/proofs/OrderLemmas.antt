-- Types in the order of what they hold, and which of them are lock types.
use Rattle.std.proofs.Common.{◌≡◌, ◌≢◌, ◌↔◌, ◌⊎◌, ◌||◌, ℕ, zero, suc, ◌+◌, ◌<◌, ◌≤◌, Bool, true, false, List, [], ◌∷◌, map, length, set, Option, Some, None, option_map, slice_get, refl, sym, ap, ◌∙◌, subst, inl, inr, arith, get_or-set_same, get_or-set_other}
use Rattle.std.specs.List.{Contains, All}
use Rattle.std.specs.Option.{option_map_or}
use Rattle.std.proofs.lemmas.Bool.{cases_eq}
use Rattle.std.proofs.lemmas.List.Elements.{Contains-append_left, Contains-append_right, Contains-append_cases, Contains-push, Contains-push_cases}
use Rattle.std.proofs.lemmas.Option.{slice_get_within}
use Rattle.gv_base.proofs.Lists.{same_some}
use Rattle.need_order.specs.Graphs.{Needs, Path, Leads, IsClosed, IsOrder}
use Rattle.need_order.specs.declared.needed.Needed.{Needed}
use Rattle.type_model.specs.declared.term.TypeName.{TypeName}
use Rattle.type_model.specs.declared.table.TypeTable.{TypeTable}
use Rattle.type_model.specs.GoTypes.{GoType, BasicType, DefinedType, PointerTo, SliceOf, ArrayOf, MapOf, ChanOf, FuncOf, StructOf, InterfaceOf, type_number}
use Rattle.type_model.specs.Declarations.{Declaration, Declarations, held, EndsIn}
use Rattle.type_model.specs.Tables.{IsTable, types_in, count, declarations_in}
use Rattle.lock_types.specs.Locks.{IsLocker, parts_in, IsLock, ByItself, ByPart}
use Rattle.lock_types.specs.InTable.{numbered_types, AreParts, ArePartsTo, IsTypeOrder, lock_at, any_lock, IsFlag, AreFlagsTo, AreLocks}

-- ---- lists

none_in : {X : Type 0} (b : X) → Contains [] b → ⊥
none_in b (k, low, e) = omega arith

single_is : {X : Type 0} (a b : X) → Contains (a ∷ []) b → a ≡ b
single_is {X} a b there = elim (Contains-push_cases {X = X} [] a b there) [ inl none ↦ absurd (none_in b none) | inr same ↦ same ]

-- an item by its place
place_of : {X : Type 0} (xs : List X) (x : X) → Contains xs x → (k : ℕ) × (slice_get xs k ≡ Some x)
place_of {X} [] x there = absurd (none_in x there)
place_of {X} (y ∷ xs) x there = elim (Contains-append_cases (y ∷ []) xs x there) [
  | inl here ↦ (0, ap (λ z. Some z) (single_is y x here))
  | inr later ↦ (let r = place_of xs x later in (suc r.0, r.1))
]

at_place : {X : Type 0} (xs : List X) (k : ℕ) (x : X) → slice_get xs k ≡ Some x → Contains xs x
at_place {X} [] k x e = absurd (cc)
at_place {X} (y ∷ xs) zero x e = subst (λ (z : X). Contains (y ∷ xs) z) (it y x e) (Contains-append_left (y ∷ []) xs y (Contains-push [] y)) where
  it : (y x : X) → Some y ≡ Some x → y ≡ x
  it y x e = cc
at_place {X} (y ∷ xs) (suc k) x e = Contains-append_right (y ∷ []) xs x (at_place xs k x e)

mapped : {X Y : Type 0} (f : X → Y) (xs : List X) (k : ℕ) (x : X) → slice_get xs k ≡ Some x → slice_get (map f xs) k ≡ Some (f x)
mapped f [] k x e = absurd (cc)
mapped {X} f (y ∷ xs) zero x e = ap (λ z. Some (f z)) (it y x e) where
  it : (y x : X) → Some y ≡ Some x → y ≡ x
  it y x e = cc
mapped f (y ∷ xs) (suc k) x e = mapped f xs k x e

unmapped : {X Y : Type 0} (f : X → Y) (xs : List X) (k : ℕ) (y : Y) → slice_get (map f xs) k ≡ Some y → (x : X) × (slice_get xs k ≡ Some x) × (f x ≡ y)
unmapped f [] k y e = absurd (cc)
unmapped {X} {Y} f (x ∷ xs) zero y e = (x, refl, it (f x) y e) where
  it : (a b : Y) → Some a ≡ Some b → a ≡ b
  it a b e = cc
unmapped f (x ∷ xs) (suc k) y e = unmapped f xs k y e

all_at : {X : Type 0} (P : X → Type 0) (xs : List X) (x : X) → All P xs → Contains xs x → P x
all_at {X} P xs x all (k, low, e) = subst P e (all k x low)

-- ---- what types hold comes to an end

within_held : (ds : Declarations) (n : ℕ) (a b : GoType) → EndsIn ds (suc n) a → Contains (held ds a) b → EndsIn ds n b
within_held ds n a b ends there = all_at (λ part. EndsIn ds n part) (held ds a) b ends there

-- ends in fewer steps
abbrev EndsBelow : Declarations → ℕ → GoType → Type 0
EndsBelow ds n b = (m : ℕ) × (m ≤ n) × EndsIn ds m b

same_ends : (ds : Declarations) (n : ℕ) (a b : GoType) → EndsIn ds (suc n) a → Contains (held ds a) b → EndsBelow ds n b
same_ends ds n a b ends there = (n, omega arith, within_held ds n a b ends there)

named_ends : (ds : Declarations) (n : ℕ) (name : TypeName) (b : GoType) (o : Option Declaration) → ds name ≡ o → EndsIn ds (suc n) (DefinedType name)
    → Contains (option_map_or (held ds) (option_map (λ (d : Declaration). d.under) o) []) b → EndsBelow ds n b
named_ends ds n name b None e ends there = absurd (none_in b there)
named_ends ds n name b (Some d) e ends there =
    step n (within_held ds n (DefinedType name) d.under ends (subst (λ (l : List GoType). Contains l d.under) (sym (ap (λ (o : Option Declaration). option_map_or (λ (x : Declaration). x.under ∷ []) o []) e)) (Contains-push [] d.under))) where
      step : (m : ℕ) → EndsIn ds m d.under → EndsBelow ds m b
      step zero ends = absurd ends
      step (suc m) ends = (m, omega arith, within_held ds m d.under b ends there)

part_ends : (ds : Declarations) (n : ℕ) (a b : GoType) → EndsIn ds (suc n) a → Contains (parts_in ds a) b → EndsBelow ds n b
part_ends ds n (BasicType kind) b ends there = same_ends ds n (BasicType kind) b ends there
part_ends ds n (DefinedType name) b ends there = named_ends ds n name b (ds name) refl ends there
part_ends ds n (PointerTo of) b ends there = same_ends ds n (PointerTo of) b ends there
part_ends ds n (SliceOf of) b ends there = same_ends ds n (SliceOf of) b ends there
part_ends ds n (ArrayOf size of) b ends there = same_ends ds n (ArrayOf size of) b ends there
part_ends ds n (MapOf key of) b ends there = same_ends ds n (MapOf key of) b ends there
part_ends ds n (ChanOf direction of) b ends there = same_ends ds n (ChanOf direction of) b ends there
part_ends ds n (FuncOf of) b ends there = same_ends ds n (FuncOf of) b ends there
part_ends ds n (StructOf fields) b ends there = same_ends ds n (StructOf fields) b ends there
part_ends ds n (InterfaceOf methods) b ends there = same_ends ds n (InterfaceOf methods) b ends there

-- ---- rows

module _ (t : TypeTable) (table : IsTable t) where
  abbrev ty : ℕ → GoType
  ty n = type_number (types_in t) n

  abbrev ds : Declarations
  ds = declarations_in t

  -- what a row names is held
  part_held : (n : ℕ) (row : List ℕ) (k part : ℕ) → AreParts t n row → slice_get row k ≡ Some part → Contains (parts_in ds (ty n)) (ty part)
  part_held n row k part are e = subst (λ (l : List GoType). Contains l (ty part)) are.are (at_place (numbered_types t row) k (ty part) (mapped ty row k part e))

  -- what is held is named
  held_part : (n : ℕ) (row : List ℕ) (b : GoType) → AreParts t n row → Contains (parts_in ds (ty n)) b → (k : ℕ) × (part : ℕ) × (slice_get row k ≡ Some part) × (ty part ≡ b)
  held_part n row b are there =
      let (k, e) = place_of (numbered_types t row) b (subst (λ (l : List GoType). Contains l b) (sym are.are) there) in
      let (part, there, is) = unmapped ty row k b e in
      (k, part, there, is)

  -- a type has one row
  one_row : (a b : List ℕ) → numbered_types t a ≡ numbered_types t b → ((k id : ℕ) → slice_get a k ≡ Some id → id < count t) → ((k id : ℕ) → slice_get b k ≡ Some id → id < count t) → a ≡ b
  one_row [] [] e low high = refl
  one_row [] (y ∷ b) e low high = absurd (cc)
  one_row (x ∷ a) [] e low high = absurd (cc)
  one_row (x ∷ a) (y ∷ b) e low high =
      let here : x ≡ y = table.terms.once x y (low 0 x refl) (high 0 y refl) (first (ty x) (ty y) (numbered_types t a) (numbered_types t b) e) in
      let rest : a ≡ b = one_row a b (others (ty x) (ty y) (numbered_types t a) (numbered_types t b) e) (λ k id at. low (suc k) id at) (λ k id at. high (suc k) id at) in
      ap (λ z. z ∷ a) here ∙ ap (λ l. y ∷ l) rest where
        first : (p q : GoType) (ps qs : List GoType) → p ∷ ps ≡ q ∷ qs → p ≡ q
        first p q ps qs e = cc

        others : (p q : GoType) (ps qs : List GoType) → p ∷ ps ≡ q ∷ qs → ps ≡ qs
        others p q ps qs e = cc

  same_row : (n : ℕ) (a b : List ℕ) → AreParts t n a → AreParts t n b → a ≡ b
  same_row n a b one other = one_row a b (one.are ∙ sym other.are) one.below other.below

  -- ---- the graph

  module _ (rows : List (List ℕ)) (are : ArePartsTo t (count t) rows) where
    pub closed : IsClosed rows
    closed = record {
      within = λ a b (row, at, there). (
          let (k, e) = place_of row b there in
          let low = (are.each a row at).below k b e in
          let size = are.size in
          omega (arith, low, size)
          );
    }

    needs_ends : (n a b : ℕ) → Needs rows a b → EndsIn ds (suc n) (ty a) → EndsBelow ds n (ty b)
    needs_ends n a b (row, at, there) ends =
        let (k, e) = place_of row b there in
        part_ends ds n (ty a) (ty b) ends (part_held a row k b (are.each a row at) e)

    -- a circle, begun at its next vertex
    turned : (a c : ℕ) (via : List ℕ) → Needs rows a c → Path (Needs rows) c via a → Leads (Needs rows) c c
    turned a c via step path = go c via path where
      go : (d : ℕ) (via : List ℕ) → Path (Needs rows) d via a → Leads (Needs rows) d c
      go d [] need = (a ∷ [], (need, step))
      go d (x ∷ via) (need, more) = let r = go x via more in (x ∷ r.0, (need, r.1))

    no_circle : (fuel n a : ℕ) → n ≤ fuel → EndsIn ds n (ty a) → Leads (Needs rows) a a → ⊥
    no_circle fuel zero a low ends leads = ends
    no_circle zero (suc n) a low ends leads = omega arith
    no_circle (suc fuel) (suc n) a low ends ([], need) = let r = needs_ends n a a need ends in let l = r.1 in no_circle fuel r.0 a (omega arith) r.2 ([], need)
    no_circle (suc fuel) (suc n) a low ends (c ∷ via, (need, path)) =
        let r = needs_ends n a c need ends in
        let l = r.1 in
        no_circle fuel r.0 c (omega arith) r.2 (turned a c via need path)

    circle : (a b : ℕ) → Needs rows a b → Leads (Needs rows) b a → Leads (Needs rows) a a
    circle a b need (via, path) = (b ∷ via, (need, path))

    pub ordered : (order : List Needed) → IsOrder (Needs rows) (length rows) order → IsTypeOrder t order
    ordered order is = record {
      within = λ k e at. (let w = is.within k e at in let s = are.size in omega (arith, w, s));
      each = λ n low. is.each n (let s = are.size in omega (arith, low, s));
      once = is.once;
      after = λ k e row at parts i part there. follows k e row at parts i part there;
    } where
      follows : (k : ℕ) (e : Needed) (row : List ℕ) → slice_get order k ≡ Some e → AreParts t e.vertex row → (i part : ℕ) → slice_get row i ≡ Some part
          → (j : ℕ) × (f : Needed) × (j < k) × (slice_get order j ≡ Some f) × (f.vertex ≡ part)
      follows k e row at parts i part there =
          let (own, own_at) = row_at rows e.vertex (is.within k e at) in
          let same : row ≡ own = same_row e.vertex row own parts (are.each e.vertex own own_at) in
          let need : Needs rows e.vertex part = (own, own_at, at_place own i part (ap (λ l. slice_get l i) (sym same) ∙ there)) in
          is.after k e at part need (λ back. (let (n, ends) = table.ends (ty e.vertex) in no_circle n n e.vertex (omega arith) ends (circle e.vertex part need back))) where
            row_at : (xs : List (List ℕ)) (i : ℕ) → i < length xs → (x : List ℕ) × (slice_get xs i ≡ Some x)
            row_at [] i low = absurd (omega arith)
            row_at (x ∷ xs) zero low = (x, refl)
            row_at (x ∷ xs) (suc i) low = row_at xs i (omega arith)

  -- ---- flags

  or_cases : (a b : Bool) → (a || b) ≡ true → (a ≡ true) ⊎ (b ≡ true)
  or_cases true b e = inl refl
  or_cases false b e = inr e

  or_left : (a b : Bool) → a ≡ true → (a || b) ≡ true
  or_left a b e = ap (λ x. x || b) e

  or_right : (a b : Bool) → b ≡ true → (a || b) ≡ true
  or_right true b e = refl
  or_right false b e = e

  any_at : (flags : List Bool) (ids : List ℕ) → any_lock flags ids ≡ true → (k : ℕ) × (id : ℕ) × (slice_get ids k ≡ Some id) × (lock_at flags id ≡ true)
  any_at flags [] e = absurd (cc)
  any_at flags (id ∷ ids) e = elim (or_cases (lock_at flags id) (any_lock flags ids) e) [
    | inl here ↦ (0, id, refl, here)
    | inr later ↦ (let r = any_at flags ids later in (suc r.0, r.1, r.2, r.3))
  ]

  at_any : (flags : List Bool) (ids : List ℕ) (k id : ℕ) → slice_get ids k ≡ Some id → lock_at flags id ≡ true → any_lock flags ids ≡ true
  at_any flags [] k id there e = absurd (cc)
  at_any flags (x ∷ ids) zero id there e = or_left (lock_at flags x) (any_lock flags ids) (ap (lock_at flags) (it x id there) ∙ e) where
    it : (a b : ℕ) → Some a ≡ Some b → a ≡ b
    it a b e = cc
  at_any flags (x ∷ ids) (suc k) id there e = or_right (lock_at flags x) (any_lock flags ids) (at_any flags ids k id there e)

  -- a lock type is one by itself, or by what it holds
  lock_cases : (of : GoType) → IsLock ds of → IsLocker ds of ⊎ ((part : GoType) × Contains (parts_in ds of) part × IsLock ds part)
  lock_cases of (ByItself _ locker) = inl locker
  lock_cases of (ByPart _ part there lock) = inr (part, there, lock)

  -- one that locks itself
  pub flag_locker : (n : ℕ) (b : Bool) → (b ≡ true) ↔ IsLocker ds (ty n) → b ≡ true → IsFlag t n true
  flag_locker n b tells e = (λ x. ByItself (ty n) (tells.0 e), λ x. refl)

  -- another one, by its parts
  pub flag_parts : (n : ℕ) (b : Bool) (flags : List Bool) (row : List ℕ) → (b ≡ true) ↔ IsLocker ds (ty n) → b ≡ false → AreParts t n row
      → ((k part : ℕ) → slice_get row k ≡ Some part → IsFlag t part (lock_at flags part)) → IsFlag t n (any_lock flags row)
  flag_parts n b flags row tells failed are flagged = (
    λ e. (let (k, part, there, lock) = any_at flags row e in ByPart (ty n) (ty part) (part_held n row k part are there) ((flagged k part there).0 lock)),
    λ l. elim (lock_cases (ty n) l) [
      | inl locker ↦ absurd (differ b failed (tells.1 locker))
      | inr (part, there, lock) ↦ (
          let (k, id, at, is) = held_part n row part are there in
          at_any flags row k id at ((flagged k id at).1 (subst (λ (x : GoType). IsLock ds x) (sym is) lock))
          )
    ],
  ) where
    differ : (b : Bool) → b ≡ false → b ≡ true → ⊥
    differ b p q = cc

  -- the parts of the next one in the order have their flags
  pub parts_flagged : (order : List Needed) (i : ℕ) (flags : List Bool) (e : Needed) → IsTypeOrder t order → slice_get order i ≡ Some e → AreFlagsTo t order i flags
      → (row : List ℕ) → AreParts t e.vertex row → (k part : ℕ) → slice_get row k ≡ Some part → IsFlag t part (lock_at flags part)
  parts_flagged order i flags e is at so_far row are k part there =
      let (j, f, before, there_f, vertex) = is.after i e row at are k part there in
      subst (λ (n : ℕ). IsFlag t n (lock_at flags n)) vertex (so_far.each j f before there_f)

  pub flag_more : (order : List Needed) (i : ℕ) (flags new : List Bool) (e : Needed) (b : Bool) → IsTypeOrder t order → slice_get order i ≡ Some e → AreFlagsTo t order i flags → IsFlag t e.vertex b
      → new ≡ set flags e.vertex b → AreFlagsTo t order (i + 1) new
  flag_more order i flags new e b is at so_far flag now = subst (λ (l : List Bool). AreFlagsTo t order (i + 1) l) (sym now) (record {
    size = length_set flags e.vertex b ∙ so_far.size;
    each = λ k f low there. elim (cases_eq k i) [
      | inl same ↦ (
          let one : e ≡ f = same_some (slice_get order i) e f at (ap (λ n. slice_get order n) (sym same) ∙ there) in
          subst (λ (x : Needed). IsFlag t x.vertex (lock_at (set flags e.vertex b) x.vertex)) one (subst (λ (v : Bool). IsFlag t e.vertex v) (sym here) flag)
          )
      | inr other ↦ subst (λ (v : Bool). IsFlag t f.vertex v) (sym (get_or-set_other flags e.vertex f.vertex b false (λ v. other (is.once k i f e there at v)))) (so_far.each k f (below k i low other) there)
    ];
  }) where
    below : (k i : ℕ) → k < i + 1 → k ≢ i → k < i
    below k i low other = grind arith

    here : lock_at (set flags e.vertex b) e.vertex ≡ b
    here = get_or-set_same flags e.vertex b false (let w = is.within i e at in let s = so_far.size in omega (arith, w, s))

    length_set : (xs : List Bool) (n : ℕ) (v : Bool) → length (set xs n v) ≡ length xs
    length_set [] n v = refl
    length_set (x ∷ xs) zero v = refl
    length_set (x ∷ xs) (suc n) v = ap (λ m. suc m) (length_set xs n v)

  pub no_flags_yet : (order : List Needed) (flags : List Bool) → length flags ≡ count t → AreFlagsTo t order 0 flags
  no_flags_yet order flags size = record { size = size; each = λ k e low there. absurd (omega arith) }

  pub flag_past : (order : List Needed) (i : ℕ) (flags : List Bool) → slice_get order i ≡ None → AreFlagsTo t order i flags → AreFlagsTo t order (i + 1) flags
  flag_past order i flags past so_far = record {
    size = so_far.size;
    each = λ k e low there. elim (cases_eq k i) [
      | inl same ↦ absurd (differ (slice_get order i) e past (ap (λ n. slice_get order n) (sym same) ∙ there))
      | inr other ↦ so_far.each k e (below k i low other) there
    ];
  } where
    differ : (o : Option Needed) (e : Needed) → o ≡ None → o ≡ Some e → ⊥
    differ o e p q = cc

    below : (k i : ℕ) → k < i + 1 → k ≢ i → k < i
    below k i low other = grind arith

  pub all_flags : (order : List Needed) (i : ℕ) (flags : List Bool) → IsTypeOrder t order → length order ≤ i → AreFlagsTo t order i flags → AreLocks t flags
  all_flags order i flags is end so_far = record {
    size = so_far.size;
    each = λ n low. (
        let (k, e, there, vertex) = is.each n low in
        subst (λ (m : ℕ). IsFlag t m (lock_at flags m)) vertex (so_far.each k e (let w = slice_get_within order k e there in omega (arith, w, end)) there)
        );
  }
