-- What is seen of the packages of an environment can be declared together.
use Rattle.std.proofs.Common.{◌≡◌, ◌⊎◌, inl, inr, ℕ, ◌+◌, ◌==◌, ◌&&◌, nat_eq, zero, suc, Bool, true, false, cond, if◌then◌else◌, Option, Some, None, option_map, List, [], ◌∷◌, slice_get, map, refl, sym, ap, ◌∙◌, subst, arith}
use Rattle.std.specs.List.{Contains, position_from}
use Rattle.std.specs.Option.{option_and_then}
use Rattle.std.specs.Str.{bytes_eq}
use Rattle.std.specs.declared.cmp.Ordering.{Ordering}
use Rattle.std.specs.declared.cmp.Ordering.TheVariants.{Less, Equal}
use Rattle.std.specs.Ordering.{nat_cmp, is_lt}
use Rattle.std.specs.Cmp.Lexicographic.{slice_cmp}
use Rattle.std.proofs.lemmas.Cmp.{nat_list_cmp_total, tied_itself}
use Rattle.std.proofs.lemmas.Option.{same_Some}
use Rattle.std.proofs.lemmas.Slice.Eq.{bytes_eq-Decides}
use Rattle.go_tree.specs.Lexeme.{place_of}
use Rattle.type_model.specs.declared.term.TypeName.{TypeName}
use Rattle.type_model.specs.Declarations.{Declaration, Meets}
use Rattle.type_model.specs.GoTypes.{GoType, is_defined}
use Rattle.type_model.specs.Tables.{is_same_name}
use Rattle.typed_tree.specs.Universe.{error_name}
use Rattle.unit_read.specs.Units.{error_declaration}
use Rattle.package_faces.specs.Declaring.{path_of, defined_name, declaration_out, declared_in, declared_by, first_named}
use Rattle.package_faces.specs.Faces.{DefinedOut, Face}
use Rattle.package_faces.specs.Orders.{rises, rises_after, defined_before}
use Rattle.package_faces.specs.Reaching.{own_name}
use Rattle.export_text.specs.Mentions.{IsMentioned}
use Rattle.export_text.specs.Reaching.{nothing_declared}
use Rattle.export_text.proofs.ExportLaws.{less_of, then_before}
use Rattle.face_table.specs.Fitting.{AreFit, Counts, given, paths_in}
use Rattle.action_graph.specs.Nodes.{Named}
use Rattle.action_graph.specs.Judging.{Env, Judges, AllKnown}
use Rattle.action_graph.specs.Judging.Judged.{Accepts}
use Rattle.action_graph.proofs.MeetLaws.{meets-among, met-stands, nothing-met, type-cases, none-of}
use Rattle.gv_driver.proofs.Places.{contains-head, contains-tail, contains-at}

-- what is found of an accepted package
pub record Fit (env : Env) (f : Face) : Type 0 where
  pub known : AllKnown (place_of (paths_in env)) f
  pub plain : (d : DefinedOut) → Contains f.types d → is_defined d.under ≡ false
  pub ends : (d : DefinedOut) → Contains f.types d → Meets (given [] (f ∷ env)) (own_name f.path d.name) d.under → ⊥
  pub types : rises defined_before f.types ≡ true

pub accepted-fit : (path : List ℕ) (files : List Named) (env : Env) (f : Face) → Judges path files env (Accepts f) → Fit env f
unfolding Judges
accepted-fit path files env f (p, (of, found)) = record { known = found.fit.known; plain = found.fit.plain; ends = found.fit.ends; types = found.exports.types }

-- ---- names

both-true : (a b : Bool) → (a && b) ≡ true → (a ≡ true) × (b ≡ true)
both-true true b e = (refl, e)
both-true false b e = cc

one-package : (a b : TypeName) → is_same_name a b ≡ true → a.package ≡ b.package
one-package a b is = (bytes_eq-Decides a.package b.package).0 (both-true (bytes_eq a.package b.package) (bytes_eq a.name b.name && nat_eq a.local b.local) is).0

-- ---- places and first ones

position-up : (test : List ℕ → Bool) (i : ℕ) (xs : List (List ℕ)) → position_from test (i + 1) xs ≡ option_map suc (position_from test i xs)
position-up test i [] = refl
position-up test i (x ∷ xs) = by (test x) (position-up test (i + 1) xs)
  where
    by : (b : Bool) → position_from test (i + 1 + 1) xs ≡ option_map suc (position_from test (i + 1) xs)
        → cond b (Some (i + 1)) (position_from test (i + 1 + 1) xs) ≡ option_map suc (cond b (Some i) (position_from test (i + 1) xs))
    by true rest = let e : i + 1 ≡ suc i = omega arith in ap Some e
    by false rest = rest

shifted : {X : Type 0} (x : X) (xs : List X) (o : Option ℕ) → option_and_then (slice_get (x ∷ xs)) (option_map suc o) ≡ option_and_then (slice_get xs) o
shifted x xs None = refl
shifted x xs (Some k) = refl

pub first_cons : {X : Type 0} (name_of : X → List ℕ) (n : List ℕ) (x : X) (xs : List X) → first_named name_of (x ∷ xs) n ≡ (if bytes_eq (name_of x) n then Some x else first_named name_of xs n)
first_cons {X} name_of n x xs = by (bytes_eq (name_of x) n)
  where
    by : (b : Bool) → option_and_then (slice_get (x ∷ xs)) (cond b (Some 0) (position_from (λ spelling. bytes_eq spelling n) 1 (map name_of xs))) ≡ (if b then Some x else first_named name_of xs n)
    by true = refl
    by false = ap (option_and_then (slice_get (x ∷ xs))) (position-up (λ spelling. bytes_eq spelling n) 0 (map name_of xs)) ∙ shifted x xs (position_from (λ spelling. bytes_eq spelling n) 0 (map name_of xs))

position-some : (test : List ℕ → Bool) (i : ℕ) (xs : List (List ℕ)) → (position_from test i xs ≡ None → ⊥) → (x : List ℕ) × Contains xs x × (test x ≡ true)
position-some test i [] some = absurd (some refl)
position-some test i (x ∷ xs) some = by (test x) refl (position-some test (i + 1) xs) some
  where
    by : (b : Bool) → test x ≡ b → ((position_from test (i + 1) xs ≡ None → ⊥) → (y : List ℕ) × Contains xs y × (test y ≡ true)) → (cond b (Some i) (position_from test (i + 1) xs) ≡ None → ⊥) → (y : List ℕ) × Contains (x ∷ xs) y × (test y ≡ true)
    by true e rest h = (x, contains-head x xs, e)
    by false e rest h = let r = rest h in (r.0, contains-tail x r.0 xs r.1, r.2)

-- a path that has a place is that of a face
pub placed-face : (faces : List Face) (path : List ℕ) → (place_of (paths_in faces) path ≡ None → ⊥) → (g : Face) × Contains faces g × (g.path ≡ path)
placed-face faces path some =
    let r = position-some (λ spelling. bytes_eq spelling path) 0 (paths_in faces) some in
    let g = in-paths faces r.0 r.1 in
    (g.0, g.1, g.2 ∙ (bytes_eq-Decides r.0 path).0 r.2)
  where
    in-paths : (fs : List Face) (y : List ℕ) → Contains (paths_in fs) y → (g : Face) × Contains fs g × (g.path ≡ y)
    in-paths [] y c = absurd (none-of y c)
    in-paths (f ∷ fs) y c = elim (type-cases f.path y (paths_in fs) c) [
      | inl e ↦ (f, contains-head f fs, e)
      | inr h ↦ (let r = in-paths fs y h in (r.0, contains-tail f r.0 fs r.1, r.2))
    ]

pub first-of : (faces : List Face) (g : Face) → Contains faces g → ((h : Face) → Contains faces h → h.path ≡ g.path → h ≡ g) → first_named path_of faces g.path ≡ Some g
first-of [] g c one = absurd (none-of g c)
first-of (f ∷ faces) g c one = first_cons path_of g.path f faces ∙ by (bytes_eq f.path g.path) refl (λ h. first-of faces g h (λ k d at. one k (contains-tail f k faces d) at))
  where
    by : (b : Bool) → bytes_eq f.path g.path ≡ b → (Contains faces g → first_named path_of faces g.path ≡ Some g) → (if b then Some f else first_named path_of faces g.path) ≡ Some g
    by true e rest = ap (λ (x : Face). Some x) (one f (contains-head f faces) ((bytes_eq-Decides f.path g.path).0 e))
    by false e rest = elim (type-cases f g faces c) [
      | inl same ↦ (let yes_it : bytes_eq f.path g.path ≡ true = (bytes_eq-Decides f.path g.path).1 (ap (λ (x : Face). x.path) same) in absurd cc)
      | inr h ↦ rest h
    ]

pub first-none : (faces : List Face) (path : List ℕ) → ((h : Face) → Contains faces h → h.path ≡ path → ⊥) → first_named path_of faces path ≡ None
first-none [] path never = refl
first-none (f ∷ faces) path never = first_cons path_of path f faces ∙ by (bytes_eq f.path path) refl (first-none faces path (λ h c at. never h (contains-tail f h faces c) at))
  where
    by : (b : Bool) → bytes_eq f.path path ≡ b → first_named path_of faces path ≡ None → (if b then Some f else first_named path_of faces path) ≡ None
    by true e rest = absurd (never f (contains-head f faces) ((bytes_eq-Decides f.path path).0 e))
    by false e rest = rest

-- the type that is found by its name is one of the list
found-type : (types : List DefinedOut) (name : List ℕ) (d : DefinedOut) → first_named defined_name types name ≡ Some d → Contains types d
found-type [] name d e = cc
found-type (t ∷ types) name d e = by (bytes_eq t.name name) (found-type types name d) (sym (first_cons defined_name name t types) ∙ e)
  where
    by : (b : Bool) → (first_named defined_name types name ≡ Some d → Contains types d) → (if b then Some t else first_named defined_name types name) ≡ Some d → Contains (t ∷ types) d
    by true rest h = subst (λ (x : DefinedOut). Contains (t ∷ types) x) (same_Some t d h) (contains-head t types)
    by false rest h = contains-tail t d types (rest h)

found-out : (o : Option DefinedOut) (it : Declaration) → option_map declaration_out o ≡ Some it → (d : DefinedOut) × (o ≡ Some d) × (declaration_out d ≡ it)
found-out None it e = cc
found-out (Some d) it e = (d, refl, same_Some (declaration_out d) it e)

-- ---- the types of one package

not-less : (o : Ordering) → o ≡ Equal → o ≡ Less → ⊥
not-less o e l = cc

after-before : (x : DefinedOut) (types : List DefinedOut) (d : DefinedOut) → rises_after defined_before x types ≡ true → Contains types d → defined_before x d ≡ true
after-before x [] d rise c = absurd (none-of d c)
after-before x (y ∷ types) d rise c = by (defined_before x y) refl (after-before y types d) rise
  where
    by : (b : Bool) → defined_before x y ≡ b → (rises_after defined_before y types ≡ true → Contains types d → defined_before y d ≡ true) → (if b then rises_after defined_before y types else false) ≡ true → defined_before x d ≡ true
    by true e rest h = elim (type-cases y d types c) [
      | inl same ↦ subst (λ (z : DefinedOut). defined_before x z ≡ true) same e
      | inr there ↦ then_before x y d e (rest h there)
    ]
    by false e rest h = cc

rises-rest : (x : DefinedOut) (types : List DefinedOut) → rises_after defined_before x types ≡ true → rises defined_before types ≡ true
rises-rest x [] rise = refl
rises-rest x (y ∷ types) rise = by (defined_before x y) rise
  where
    by : (b : Bool) → (if b then rises_after defined_before y types else false) ≡ true → rises_after defined_before y types ≡ true
    by true h = h
    by false h = cc

-- types before another have other names
other-name : (x d : DefinedOut) → defined_before x d ≡ true → bytes_eq x.name d.name ≡ true → ⊥
other-name x d before same =
    let e : x.name ≡ d.name = (bytes_eq-Decides x.name d.name).0 same in
    let itself : is_lt (slice_cmp nat_cmp d.name d.name) ≡ true = subst (λ (n : List ℕ). is_lt (slice_cmp nat_cmp n d.name) ≡ true) e before in
    not-less (slice_cmp nat_cmp d.name d.name) (tied_itself nat_list_cmp_total d.name) (less_of (slice_cmp nat_cmp d.name d.name) itself)

pub place-at : (n : ℕ) (types : List DefinedOut) (i : ℕ) (d : DefinedOut) → rises defined_before types ≡ true → slice_get types i ≡ Some d
    → position_from (λ spelling. bytes_eq spelling d.name) n (map defined_name types) ≡ Some (n + i)
place-at n [] i d rise at = cc
place-at n (x ∷ types) zero d rise at =
    let same : x ≡ d = same_Some x d at in
    let yes_it : bytes_eq x.name d.name ≡ true = (bytes_eq-Decides x.name d.name).1 (ap (λ (z : DefinedOut). z.name) same) in
    let sum : n + 0 ≡ n = omega arith in
    ap (λ (b : Bool). cond b (Some n) (position_from (λ spelling. bytes_eq spelling d.name) (n + 1) (map defined_name types))) yes_it ∙ ap (λ (k : ℕ). Some k) (sym sum)
place-at n (x ∷ types) (suc i) d rise at = by (bytes_eq x.name d.name) refl (place-at (n + 1) types i d (rises-rest x types rise) at)
  where
    by : (b : Bool) → bytes_eq x.name d.name ≡ b → position_from (λ spelling. bytes_eq spelling d.name) (n + 1) (map defined_name types) ≡ Some (n + 1 + i)
        → cond b (Some n) (position_from (λ spelling. bytes_eq spelling d.name) (n + 1) (map defined_name types)) ≡ Some (n + suc i)
    by true e rest = absurd (other-name x d (after-before x types d rise (contains-at types i d at)) e)
    by false e rest =
        let sum : n + 1 + i ≡ n + suc i = omega arith in
        rest ∙ ap (λ (k : ℕ). Some k) sum

-- a name of a package with a path isn't that of `error`
pub not-error : (name : TypeName) → (name.package ≡ [] → ⊥) → is_same_name name error_name ≡ false
not-error name has = by (is_same_name name error_name) refl
  where
    by : (b : Bool) → is_same_name name error_name ≡ b → b ≡ false
    by true e = absurd (has (one-package name error_name e))
    by false e = refl

-- ---- two environments

not-same : (a b : List ℕ) → (a ≡ b → ⊥) → bytes_eq a b ≡ false
not-same a b other = by (bytes_eq a b) refl
  where
    by : (c : Bool) → bytes_eq a b ≡ c → c ≡ false
    by true e = absurd (other ((bytes_eq-Decides a b).0 e))
    by false e = refl

-- what is given of a package with a path that is another than one's own
given-of : (own : List ℕ) (faces : List Face) (name : TypeName) (g : Face) → (name.package ≡ [] → ⊥) → (own ≡ name.package → ⊥) → first_named path_of faces name.package ≡ Some g
    → given own faces name ≡ (if name.local == 0 then declared_in name.name g else None)
given-of own faces name g has other first =
    ap (λ (b : Bool). if b then Some error_declaration else (if bytes_eq own name.package then None else declared_by faces name)) (not-error name has)
    ∙ (ap (λ (b : Bool). if b then None else declared_by faces name) (not-same own name.package other)
    ∙ ap (λ (o : Option Face). if name.local == 0 then option_and_then (declared_in name.name) o else None) first)

-- what is given of names without a package
given-none : (own : List ℕ) (faces : List Face) (name : TypeName) → first_named path_of faces name.package ≡ None → given own faces name ≡ (if is_same_name name error_name then Some error_declaration else None)
given-none own faces name none =
    ap (λ (o : Option Declaration). if is_same_name name error_name then Some error_declaration else o) (by (bytes_eq own name.package) ∙ refl)
  where
    local : (b : Bool) → (if b then option_and_then (declared_in name.name) (first_named path_of faces name.package) else None) ≡ None
    local true = ap (λ (o : Option Face). option_and_then (declared_in name.name) o) none
    local false = refl

    by : (b : Bool) → (if b then None else declared_by faces name) ≡ None
    by true = refl
    by false = local (name.local == 0)

-- nothing is met from `error`
error-met : (m : TypeName) (d : Declaration) (b : Bool) → (if b then Some error_declaration else None) ≡ Some d → Meets nothing_declared m d.under → ⊥
error-met m d true e meets =
    let same : error_declaration ≡ d = same_Some error_declaration d e in
    nothing-met m error_declaration.under refl (λ n h. cc) (subst (λ (x : Declaration). Meets nothing_declared m x.under) (sym same) meets)
error-met m d false e meets = cc

given-type : (b : Bool) (name : TypeName) (g : Face) (d : Declaration) → (if b then declared_in name.name g else None) ≡ Some d → (e : DefinedOut) × Contains g.types e × (e.under ≡ d.under)
given-type true name g d is =
    let r = found-out (first_named defined_name g.types name.name) d is in
    (r.0, found-type g.types name.name r.0 r.1, ap (λ (x : Declaration). x.under) r.2)
given-type false name g d is = cc

-- Two lists of faces: in each all faces of one path are one and none has an empty path; in the larger none has the path of the package that is
-- checked; and what a face of both mentions is in both.
pub record Nest (own : List ℕ) (small big : List Face) : Type 0 where
  pub path_small : (g : Face) → Contains small g → g.path ≡ [] → ⊥
  pub path_big : (g : Face) → Contains big g → g.path ≡ [] → ⊥
  pub other : (g : Face) → Contains big g → own ≡ g.path → ⊥
  pub one_small : (g h : Face) → Contains small g → Contains small h → h.path ≡ g.path → h ≡ g
  pub one_big : (g h : Face) → Contains big g → Contains big h → h.path ≡ g.path → h ≡ g
  pub closed : (g : Face) (path : List ℕ) → Contains small g → Contains big g → IsMentioned g path → (h : Face) × Contains small h × Contains big h × (h.path ≡ path)

module _ (own : List ℕ) (small big : List Face) (nest : Nest own small big) where
  -- a name of the universe block, or of a package of both
  abbrev IsOf : TypeName → Type 0
  IsOf n = (n.package ≡ []) ⊎ ((g : Face) × Contains small g × Contains big g × (g.path ≡ n.package))

  first-small : (g : Face) (path : List ℕ) → Contains small g → g.path ≡ path → first_named path_of small path ≡ Some g
  first-small g path c e = subst (λ (p : List ℕ). first_named path_of small p ≡ Some g) e (first-of small g c (λ h d same. nest.one_small g h c d same))

  first-big : (g : Face) (path : List ℕ) → Contains big g → g.path ≡ path → first_named path_of big path ≡ Some g
  first-big g path c e = subst (λ (p : List ℕ). first_named path_of big p ≡ Some g) e (first-of big g c (λ h d same. nest.one_big g h c d same))

  has-package : (n : TypeName) (g : Face) → Contains small g → g.path ≡ n.package → n.package ≡ [] → ⊥
  has-package n g c e none = nest.path_small g c (e ∙ none)

  not-own : (n : TypeName) (g : Face) → Contains big g → g.path ≡ n.package → own ≡ n.package → ⊥
  not-own n g c e mine = nest.other g c (mine ∙ sym e)

  no-path-small : (path : List ℕ) → path ≡ [] → first_named path_of small path ≡ None
  no-path-small path e = first-none small path (λ h c same. nest.path_small h c (same ∙ e))

  no-path-big : (path : List ℕ) → path ≡ [] → first_named path_of big path ≡ None
  no-path-big path e = first-none big path (λ h c same. nest.path_big h c (same ∙ e))

  same-given : (n : TypeName) → IsOf n → given own big n ≡ given [] small n
  same-given n of = elim of [
    | inl e ↦ given-none own big n (no-path-big n.package e) ∙ sym (given-none [] small n (no-path-small n.package e))
    | inr h ↦ given-of own big n h.0 (has-package n h.0 h.1 h.3) (not-own n h.0 h.2 h.3) (first-big h.0 n.package h.2 h.3)
        ∙ sym (given-of [] small n h.0 (has-package n h.0 h.1 h.3) (λ none. has-package n h.0 h.1 h.3 (sym none)) (first-small h.0 n.package h.1 h.3))
  ]

  -- a name that stands in the text of one of the packages
  met-of : (g : Face) (d : DefinedOut) (m : TypeName) → Contains small g → Contains big g → Contains g.types d → Meets nothing_declared m d.under → IsOf m
  met-of g d m c b at meets = by (bytes_eq m.package []) refl
    where
      own-or : (b : Bool) → bytes_eq m.package g.path ≡ b → (m.package ≡ [] → ⊥) → IsOf m
      own-or true e has = inr (g, c, b, sym ((bytes_eq-Decides m.package g.path).0 e))
      own-or false e has = inr (nest.closed g m.package c b (record {
        name = m;
        stands = met-stands g d m at meets;
        of = refl;
        other = λ same. (let yes_it : bytes_eq m.package g.path ≡ true = (bytes_eq-Decides m.package g.path).1 same in absurd cc);
        some = has;
      }))

      by : (b : Bool) → bytes_eq m.package [] ≡ b → IsOf m
      by true e = inl ((bytes_eq-Decides m.package []).0 e)
      by false e = own-or (bytes_eq m.package g.path) refl (λ none. (let yes_it : bytes_eq m.package [] ≡ true = (bytes_eq-Decides m.package []).1 none in absurd cc))

  next-of : (n m : TypeName) (d : Declaration) → IsOf n → given [] small n ≡ Some d → Meets nothing_declared m d.under → IsOf m
  next-of n m d of is meets = elim of [
    | inl e ↦ absurd (error-met m d (is_same_name n error_name) (sym (given-none [] small n (no-path-small n.package e)) ∙ is) meets)
    | inr h ↦ (
        let at = given-of [] small n h.0 (has-package n h.0 h.1 h.3) (λ none. has-package n h.0 h.1 h.3 (sym none)) (first-small h.0 n.package h.1 h.3) in
        let t = given-type (n.local == 0) n h.0 d (sym at ∙ is) in
        met-of h.0 t.0 m h.1 h.2 t.1 (subst (λ (u : GoType). Meets nothing_declared m u) (sym t.2) meets))
  ]

  -- what no type of the smaller list needs, none needs in the larger
  pub ends-there : (g : Face) (d : DefinedOut) (name : TypeName) → Contains small g → Contains big g → Contains g.types d → (Meets (given [] small) name d.under → ⊥) → Meets (given own big) name d.under → ⊥
  ends-there g d name c b at ends meets =
      ends (meets-among (given [] small) (given own big) IsOf same-given next-of name d.under (λ m h. met-of g d m c b at h) meets)

-- what is asked of each face of an environment, with the faces that it may mention
pub record FitsIn (own : List ℕ) (faces : List Face) (f : Face) : Type 0 where
  pub env : List Face
  pub fit : Fit env f
  pub nest : Nest own (f ∷ env) faces

pub are-fit : (own : List ℕ) (faces : List Face) → ((f : Face) → Contains faces f → FitsIn own faces f) → AreFit own faces
are-fit own faces each = record {
  once = λ k i f d counts at. (let sum : 0 + i ≡ i = omega arith in place-at 0 f.types i d (it k f counts).fit.types at ∙ ap (λ (n : ℕ). Some n) sum);
  other = λ k i f d counts at. not-error (own_name f.path d.name) ((it k f counts).nest.path_big f (here k f counts));
  plain = λ k i f d counts at. (it k f counts).fit.plain d (contains-at f.types i d at);
  ends = λ k i f d counts at.
      let x = it k f counts in
      ends-there own (f ∷ x.env) faces x.nest f d (own_name f.path d.name) (contains-head f x.env) (here k f counts) (contains-at f.types i d at) (x.fit.ends d (contains-at f.types i d at));
}
  where
    here : (k : ℕ) (f : Face) → Counts own faces k f → Contains faces f
    here k f counts = contains-at faces k f counts.0

    it : (k : ℕ) (f : Face) → Counts own faces k f → FitsIn own faces f
    it k f counts = each f (here k f counts)
