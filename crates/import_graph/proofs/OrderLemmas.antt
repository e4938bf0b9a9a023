-- From an order of need to an order in which packages are loaded.
use Rattle.std.proofs.Common.{◌≡◌, ℕ, zero, suc, ◌<◌, ◌⊎◌, inl, inr, Bool, true, false, cond, Option, Some, None, List, [], ◌∷◌, ◌++◌, length, map, slice_get, refl, ap, sym, ◌∙◌, subst, arith}
use Rattle.std.specs.List.{Contains, filter}
use Rattle.std.specs.Option.{option_map}
use Rattle.std.proofs.lemmas.Option.{slice_get-map, slice_get_within, get_or_from_slice_get}
use Rattle.std.proofs.lemmas.List.{length-map}
use Rattle.std.proofs.lemmas.List.Elements.{Contains-get_or}
use Rattle.need_order.specs.Graphs.{Needs, Leads, Path, IsClosed, IsOrder}
use Rattle.need_order.specs.declared.needed.Needed.{Needed}
use Rattle.import_graph.specs.Orders.{is_sound, sound_one, is_sound_at, AreNumbered, SoundImports, needs_of, IsLoadOrder}
use Rattle.import_graph.specs.declared.pack.Package.{Package}

pub contains-cases : {X : Type 0} (y : X) (ys : List X) (x : X) → Contains (y ∷ ys) x → (y ≡ x) ⊎ Contains ys x
contains-cases y ys x (zero, l, e) = inl e
contains-cases y ys x (suc k, l, e) = inr (k, omega (arith, l), e)

pub contains-head : {X : Type 0} (x : X) (ys : List X) → Contains (x ∷ ys) x
contains-head x ys = (0, omega arith, refl)

pub contains-tail : {X : Type 0} (y : X) (ys : List X) (x : X) → Contains ys x → Contains (y ∷ ys) x
contains-tail y ys x (k, l, e) = (suc k, omega (arith, l), e)

-- what a filter keeps
in-step : {X : Type 0} (p : X → Bool) (y : X) (ys zs : List X) (x : X) (b : Bool) → p y ≡ b → (Contains zs x → Contains ys x × (p x ≡ true)) → Contains (cond b (y ∷ zs) zs) x → Contains (y ∷ ys) x × (p x ≡ true)
in-step p y ys zs x false e more c = let r = more c in (contains-tail y ys x r.0, r.1)
in-step p y ys zs x true e more c =
    elim (contains-cases y zs x c) [
      | inl h ↦ (subst (Contains (y ∷ ys)) h (contains-head y ys), ap p (sym h) ∙ e)
      | inr h ↦ (let r = more h in (contains-tail y ys x r.0, r.1))
    ]

pub in-filter : {X : Type 0} (p : X → Bool) (xs : List X) (x : X) → Contains (filter p xs) x → Contains xs x × (p x ≡ true)
in-filter p [] x (k, l, e) = absurd (omega (arith, l))
in-filter p (y ∷ ys) x c = in-step p y ys (filter p ys) x (p y) refl (in-filter p ys x) c

keep-step : {X : Type 0} (p : X → Bool) (y : X) (ys zs : List X) (x : X) (b : Bool) → p y ≡ b → p x ≡ true → (Contains ys x → Contains zs x) → Contains (y ∷ ys) x → Contains (cond b (y ∷ zs) zs) x
keep-step p y ys zs x true e t more c =
    elim (contains-cases y ys x c) [ inl h ↦ subst (Contains (y ∷ zs)) h (contains-head y zs) | inr h ↦ contains-tail y zs x (more h) ]
keep-step p y ys zs x false e t more c =
    elim (contains-cases y ys x c) [ inl h ↦ absurd (let f : false ≡ true = sym e ∙ ap p h ∙ t in cc) | inr h ↦ more h ]

pub keep-filter : {X : Type 0} (p : X → Bool) (xs : List X) (x : X) → p x ≡ true → Contains xs x → Contains (filter p xs) x
keep-filter p [] x t (k, l, e) = absurd (omega (arith, l))
keep-filter p (y ∷ ys) x t c = keep-step p y ys (filter p ys) x (p y) refl t (keep-filter p ys x t) c

-- a place in what a filter keeps is one in the list
pub record Cut (p : ℕ → Bool) (xs front : List ℕ) (n : ℕ) : Type 0 where
  pub before : List ℕ
  pub later : List ℕ
  pub is : xs ≡ before ++ n ∷ later
  pub kept : filter p before ≡ front

cut-more : (p : ℕ → Bool) (y : ℕ) (ys front : List ℕ) (n : ℕ) (b : Bool) → p y ≡ b → Cut p ys front n → Cut p (y ∷ ys) (cond b (y ∷ front) front) n
cut-more p y ys front n b e c = record {
  before = y ∷ c.before;
  later = c.later;
  is = ap (λ t. y ∷ t) c.is;
  kept = ap (λ t. cond t (y ∷ filter p c.before) (filter p c.before)) e ∙ ap (λ t. cond b (y ∷ t) t) c.kept;
}

cut-step : (p : ℕ → Bool) (y : ℕ) (ys zs front behind : List ℕ) (n : ℕ) (b : Bool) → p y ≡ b → ((f g : List ℕ) → zs ≡ f ++ n ∷ g → Cut p ys f n)
    → cond b (y ∷ zs) zs ≡ front ++ n ∷ behind → Cut p (y ∷ ys) front n
cut-step p y ys zs front behind n false e more w = cut-more p y ys front n false e (more front behind w)
cut-step p y ys zs [] behind n true e more w =
    let h : y ≡ n = cc in
    record { before = []; later = ys; is = ap (λ t. t ∷ ys) h; kept = refl }
cut-step p y ys zs (x ∷ front) behind n true e more w =
    let h : y ≡ x = cc in
    let t : zs ≡ front ++ n ∷ behind = cc in
    subst (λ f. Cut p (y ∷ ys) f n) (ap (λ a. a ∷ front) h) (cut-more p y ys front n true e (more front behind t))

not-nil : (front behind : List ℕ) (n : ℕ) → [] ≡ front ++ n ∷ behind → ⊥
not-nil [] behind n w = cc
not-nil (x ∷ front) behind n w = cc

pub cut-filter : (p : ℕ → Bool) (xs front behind : List ℕ) (n : ℕ) → filter p xs ≡ front ++ n ∷ behind → Cut p xs front n
cut-filter p [] front behind n w = absurd (not-nil front behind n w)
cut-filter p (y ∷ ys) front behind n w = cut-step p y ys (filter p ys) front behind n (p y) refl (λ f g v. cut-filter p ys f g n v) w

-- paths and what they lead by
pub path-as : (P Q : ℕ → ℕ → Type 0) → ((a b : ℕ) → P a b → Q a b) → (via : List ℕ) (a b : ℕ) → Path P a via b → Path Q a via b
path-as P Q h [] a b p = h a b p
path-as P Q h (c ∷ via) a b p = (h a c p.0, path-as P Q h via c b p.1)

row-at : (packages : List Package) (a : ℕ) (o : Option Package) (row : List ℕ) → slice_get packages a ≡ o → option_map (needs_of packages) o ≡ Some row → (p : Package) × (slice_get packages a ≡ Some p) × (needs_of packages p ≡ row)
row-at packages a None row e h = absurd (let f : None ≡ Some row = h in cc)
row-at packages a (Some p) row e h = (p, e, let f : Some (needs_of packages p) ≡ Some row = h in cc)

sound-row : (packages : List Package) (p : Package) (n : ℕ) (b : Bool) → is_sound p.state ≡ b → Contains (cond b (filter (is_sound_at packages) p.imports) []) n → (is_sound p.state ≡ true) × Contains p.imports n × (is_sound_at packages n ≡ true)
sound-row packages p n true e c = let r = in-filter (is_sound_at packages) p.imports n c in (e, r.0, r.1)
sound-row packages p n false e (k, l, f) = absurd (omega (arith, l))

pub sound-from_needs : (packages : List Package) (a b : ℕ) → Needs (map (needs_of packages) packages) a b → SoundImports packages a b
sound-from_needs packages a b (row, get, has) =
    let r = row-at packages a (slice_get packages a) row refl (sym (slice_get-map (needs_of packages) packages a) ∙ get) in
    let p = r.0 in
    let s = sound-row packages p b (is_sound p.state) refl (subst (λ t. Contains t b) (sym r.2) has) in
    (p, r.1, s.0, s.1, s.2)

pub needs-from_sound : (packages : List Package) (a b : ℕ) → SoundImports packages a b → Needs (map (needs_of packages) packages) a b
needs-from_sound packages a b (p, get, is, has, other) = (
  needs_of packages p,
  slice_get-map (needs_of packages) packages a ∙ ap (option_map (needs_of packages)) get,
  subst (λ t. Contains (cond t (filter (is_sound_at packages) p.imports) []) b) (sym is) (keep-filter (is_sound_at packages) p.imports b other has),
)

pub closed : (packages : List Package) → AreNumbered packages → IsClosed (map (needs_of packages) packages)
closed packages numbered = record {
  within = λ a b n. let s = sound-from_needs packages a b n in
      let l : b < length packages = numbered a b s.0 s.1 s.3 in
      let e : length (map (needs_of packages) packages) ≡ length packages = length-map packages (needs_of packages) in
      omega arith;
}

-- numbers by their places
pub get-middle : (before later : List ℕ) (n : ℕ) → slice_get (before ++ n ∷ later) (length before) ≡ Some n
get-middle [] later n = refl
get-middle (x ∷ before) later n = get-middle before later n

pub get-before : (before rest : List ℕ) (n : ℕ) → Contains before n → (j : ℕ) × (j < length before) × (slice_get (before ++ rest) j ≡ Some n)
get-before [] rest n (k, l, e) = absurd (omega (arith, l))
get-before (x ∷ before) rest n (zero, l, e) = (0, l, ap Some e)
get-before (x ∷ before) rest n (suc k, l, e) =
    let r = get-before before rest n (k, omega (arith, l), e) in (suc r.0, omega (arith, r.1), r.2)

pub before-get : (before rest : List ℕ) (n j : ℕ) → j < length before → slice_get (before ++ rest) j ≡ Some n → Contains before n
before-get [] rest n j l e = absurd (omega (arith, l))
before-get (x ∷ before) rest n zero l e = let h : x ≡ n = cc in subst (Contains (x ∷ before)) h (contains-head x before)
before-get (x ∷ before) rest n (suc j) l e = contains-tail x before n (before-get before rest n j (omega (arith, l)) e)

pub get-contains : (xs : List ℕ) (k n : ℕ) → slice_get xs k ≡ Some n → Contains xs n
get-contains xs k n e = (k, slice_get_within xs k n e, get_or_from_slice_get xs k n n e)

abbrev pub vertex : Needed → ℕ
vertex e = e.vertex

needed-at : (order : List Needed) (k n : ℕ) (o : Option Needed) → slice_get order k ≡ o → option_map vertex o ≡ Some n → (e : Needed) × (slice_get order k ≡ Some e) × (e.vertex ≡ n)
needed-at order k n None g h = absurd (let f : None ≡ Some n = h in cc)
needed-at order k n (Some e) g h = (e, g, let f : Some e.vertex ≡ Some n = h in cc)

pub vertex-at : (order : List Needed) (k n : ℕ) → slice_get (map vertex order) k ≡ Some n → (e : Needed) × (slice_get order k ≡ Some e) × (e.vertex ≡ n)
vertex-at order k n h = needed-at order k n (slice_get order k) refl (sym (slice_get-map vertex order k) ∙ h)

pub at-vertex : (order : List Needed) (k n : ℕ) (e : Needed) → slice_get order k ≡ Some e → e.vertex ≡ n → slice_get (map vertex order) k ≡ Some n
at-vertex order k n e g v = slice_get-map vertex order k ∙ ap (option_map vertex) g ∙ ap Some v

sound-in : (packages : List Package) (n : ℕ) (o : Option Package) → slice_get packages n ≡ o → is_sound_at packages n ≡ true → n < length packages
sound-in packages n None g t = absurd (let f : false ≡ true = ap sound_one (sym g) ∙ t in cc)
sound-in packages n (Some p) g t = slice_get_within packages n p g

no-way-back : (packages : List Package) → ((a : ℕ) → Leads (SoundImports packages) a a → ⊥) → (v u : ℕ) → SoundImports packages v u → Leads (Needs (map (needs_of packages) packages)) u v → ⊥
no-way-back packages acyclic v u s (via, path) =
    acyclic v (u ∷ via, (s, path-as (Needs (map (needs_of packages) packages)) (SoundImports packages) (sound-from_needs packages) via u v path))

module _ (packages : List Package) (order : List Needed) (acyclic : (a : ℕ) → Leads (SoundImports packages) a a → ⊥)
    (is : IsOrder (Needs (map (needs_of packages) packages)) (length (map (needs_of packages) packages)) order) where
  order-each : (n : ℕ) → is_sound_at packages n ≡ true → Contains (filter (is_sound_at packages) (map vertex order)) n
  order-each n t =
      let l : n < length packages = sound-in packages n (slice_get packages n) refl t in
      let e : length (map (needs_of packages) packages) ≡ length packages = length-map packages (needs_of packages) in
      let r = is.each n (omega (arith, l, e)) in
      keep-filter (is_sound_at packages) (map vertex order) n t (get-contains (map vertex order) r.0 n (at-vertex order r.0 n r.1 r.2 r.3))

  order-once : (front behind : List ℕ) (n : ℕ) → filter (is_sound_at packages) (map vertex order) ≡ front ++ n ∷ behind → Contains front n → ⊥
  order-once front behind n w has =
      let c = cut-filter (is_sound_at packages) (map vertex order) front behind n w in
      let b = in-filter (is_sound_at packages) c.before n (subst (λ t. Contains t n) (sym c.kept) has) in
      let j = get-before c.before (n ∷ c.later) n b.0 in
      let x = vertex-at order j.0 n (ap (λ t. slice_get t j.0) c.is ∙ j.2) in
      let y = vertex-at order (length c.before) n (ap (λ t. slice_get t (length c.before)) c.is ∙ get-middle c.before c.later n) in
      let same : j.0 ≡ length c.before = is.once j.0 (length c.before) x.0 y.0 x.1 y.1 (x.2 ∙ sym y.2) in
      omega (arith, same, j.1)

  order-after : (front behind : List ℕ) (n m : ℕ) → filter (is_sound_at packages) (map vertex order) ≡ front ++ n ∷ behind → SoundImports packages n m → Contains front m
  order-after front behind n m w s =
      let c = cut-filter (is_sound_at packages) (map vertex order) front behind n w in
      let y = vertex-at order (length c.before) n (ap (λ t. slice_get t (length c.before)) c.is ∙ get-middle c.before c.later n) in
      let s' : SoundImports packages y.0.vertex m = subst (λ v. SoundImports packages v m) (sym y.2) s in
      let r = is.after (length c.before) y.0 y.1 m (needs-from_sound packages y.0.vertex m s') (no-way-back packages acyclic y.0.vertex m s') in
      let g : slice_get (c.before ++ n ∷ c.later) r.0 ≡ Some m = ap (λ t. slice_get t r.0) (sym c.is) ∙ at-vertex order r.0 m r.1 r.3 r.4 in
      let b = before-get c.before (n ∷ c.later) m r.0 r.2 g in
      subst (λ t. Contains t m) c.kept (keep-filter (is_sound_at packages) c.before m s.4 b)

  pub load-order : IsLoadOrder packages (filter (is_sound_at packages) (map vertex order))
  load-order = record {
    sound = λ k d l. (in-filter (is_sound_at packages) (map vertex order) _ (Contains-get_or (filter (is_sound_at packages) (map vertex order)) k d l)).1;
    each = order-each;
    once = order-once;
    after = order-after;
  }
