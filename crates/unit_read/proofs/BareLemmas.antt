-- What rules read of an environment is what all read of it: of the packages that imports name the same is known.
use Rattle.std.proofs.Common.{◌≡◌, ◌⊎◌, ℕ, zero, suc, ◌+◌, ◌<◌, Bool, true, false, if◌then◌else◌, cond, List, [], ◌∷◌, ◌++◌, map, length, Option, Some, None, option_map, option_and_then, option_to_list, slice_get, refl, sym, ap, ◌∙◌, subst, inl, inr, arith}
use Rattle.std.specs.List.{position_from}
use Rattle.std.specs.Option.{option_map_or}
use Rattle.std.specs.Str.{bytes_eq}
use Rattle.std.proofs.lemmas.Option.{slice_get_within}
use Rattle.std.proofs.lemmas.Slice.Eq.{bytes_eq-Decides}
use Rattle.const_tree.proofs.ListLemmas.{gather_cases}
use Rattle.go_tree.specs.ImportPaths.{path_of}
use Rattle.go_tree.specs.Lexeme.{place_of}
use Rattle.go_tree.specs.Values.{text_value}
use Rattle.go_tree.specs.declared.bindings.Object.{Object}
use Rattle.go_tree.specs.declared.bindings.Object.TheVariants as o
use Rattle.go_tree.specs.declared.tree.FileTree.{FileTree}
use Rattle.go_tree.specs.declared.tree.Node.{Node}
use Rattle.go_tree.specs.declared.tree.NodeRef.{NodeRef}
use Rattle.package_objects.specs.Declares.{gather}
use Rattle.package_faces.specs.Declaring.{first_named, path_of as face_path}
use Rattle.package_faces.specs.Faces.{Face}
use Rattle.typed_tree.specs.declared.rule.Limit.{Limit}
use Rattle.typed_tree.specs.Meanings.{Meaning, Quiet}
use Rattle.unit_read.specs.declared.lead.Lead.{Lead}
use Rattle.unit_read.specs.Imports.{is_import, path_limit, paths_of, lead_by, lead_of, lead_at, import_limit, package_mark, package_of, meaning_by, import_meaning, exported_in, exported_by, exported_of, place_within, led_by, node_limit, faces_within, face_for, nth_face, faces_for, imported_by, imported, bare}
use Rattle.unit_read.specs.Units.{Unit, tree_at, nodes_of, nodes_at, node_at, last_spelled}

-- ---- the first of a name

position_up : (test : List ℕ → Bool) (i : ℕ) (xs : List (List ℕ)) → position_from test (i + 1) xs ≡ option_map suc (position_from test i xs)
position_up test i [] = refl
position_up test i (x ∷ xs) = by (test x) (position_up test (i + 1) xs)
  where
    by : (b : Bool) → position_from test (i + 1 + 1) xs ≡ option_map suc (position_from test (i + 1) xs)
        → cond b (Some (i + 1)) (position_from test (i + 1 + 1) xs) ≡ option_map suc (cond b (Some i) (position_from test (i + 1) xs))
    by true rest = let e : i + 1 ≡ suc i = omega arith in ap Some e
    by false rest = rest

shifted : {X : Type 0} (x : X) (xs : List X) (o : Option ℕ) → option_and_then (slice_get (x ∷ xs)) (option_map suc o) ≡ option_and_then (slice_get xs) o
shifted x xs None = refl
shifted x xs (Some k) = refl

first_cons : (p : List ℕ) (x : Face) (xs : List Face) → first_named face_path (x ∷ xs) p ≡ (if bytes_eq x.path p then Some x else first_named face_path xs p)
first_cons p x xs = by (bytes_eq x.path p)
  where
    by : (b : Bool) → option_and_then (slice_get (x ∷ xs)) (cond b (Some 0) (position_from (λ spelling. bytes_eq spelling p) 1 (map face_path xs))) ≡ (if b then Some x else first_named face_path xs p)
    by true = refl
    by false = ap (option_and_then (slice_get (x ∷ xs))) (position_up (λ spelling. bytes_eq spelling p) 0 (map face_path xs)) ∙ shifted x xs (position_from (λ spelling. bytes_eq spelling p) 0 (map face_path xs))

-- it is of that name, and one of the list
first_is : (p : List ℕ) (xs : List Face) (f : Face) → first_named face_path xs p ≡ Some f → (f.path ≡ p) × ((k : ℕ) × (slice_get xs k ≡ Some f))
first_is p [] f e = absurd cc
first_is p (x ∷ xs) f e = by (bytes_eq x.path p) refl (sym (first_cons p x xs) ∙ e) (first_is p xs f)
  where
    by : (b : Bool) → bytes_eq x.path p ≡ b → (if b then Some x else first_named face_path xs p) ≡ Some f
        → (first_named face_path xs p ≡ Some f → (f.path ≡ p) × ((k : ℕ) × (slice_get xs k ≡ Some f))) → (f.path ≡ p) × ((k : ℕ) × (slice_get (x ∷ xs) k ≡ Some f))
    by true named is rest = let same : x ≡ f = cc in (subst (λ (y : Face). y.path ≡ p) same ((bytes_eq-Decides x.path p).0 named), (0, is))
    by false other is rest = let r = rest is in (r.0, (suc r.1.0, r.1.1))

-- where one of the list is of that name, there is a first one
first_there : (p : List ℕ) (xs : List Face) (k : ℕ) (f : Face) → slice_get xs k ≡ Some f → f.path ≡ p → (g : Face) × (first_named face_path xs p ≡ Some g)
first_there p [] k f at named = absurd cc
first_there p (x ∷ xs) zero f at named =
    let same : x ≡ f = cc in
    (x, first_cons p x xs ∙ ap (λ (b : Bool). if b then Some x else first_named face_path xs p) ((bytes_eq-Decides x.path p).1 (ap (λ (y : Face). y.path) same ∙ named)))
first_there p (x ∷ xs) (suc k) f at named = by (bytes_eq x.path p) refl (first_there p xs k f at named)
  where
    by : (b : Bool) → bytes_eq x.path p ≡ b → (g : Face) × (first_named face_path xs p ≡ Some g) → (g : Face) × (first_named face_path (x ∷ xs) p ≡ Some g)
    by true is rest = (x, first_cons p x xs ∙ ap (λ (b : Bool). if b then Some x else first_named face_path xs p) is)
    by false is rest = (rest.0, first_cons p x xs ∙ (ap (λ (b : Bool). if b then Some x else first_named face_path xs p) is ∙ rest.1))

-- a package of the name is known where it has a place
package_suc : (r : Option ℕ) → package_of (option_map suc r) ≡ package_of r
package_suc None = refl
package_suc (Some k) = refl

package_first : (p : List ℕ) (xs : List Face) → package_of (place_of (paths_of xs) p) ≡ option_map_or (λ (f : Face). package_mark) (first_named face_path xs p) Quiet
package_first p [] = refl
package_first p (x ∷ xs) = by (bytes_eq x.path p) refl (package_first p xs)
  where
    first : (b : Bool) → bytes_eq x.path p ≡ b → first_named face_path (x ∷ xs) p ≡ (if b then Some x else first_named face_path xs p)
    first b is = first_cons p x xs ∙ ap (λ (c : Bool). if c then Some x else first_named face_path xs p) is

    mark_of : Option Face → Meaning
    mark_of r = option_map_or (λ (f : Face). package_mark) r Quiet

    by : (b : Bool) → bytes_eq x.path p ≡ b → package_of (place_of (paths_of xs) p) ≡ mark_of (first_named face_path xs p)
        → package_of (cond b (Some 0) (position_from (λ spelling. bytes_eq spelling p) 1 (paths_of xs))) ≡ mark_of (first_named face_path (x ∷ xs) p)
    by true is rest = sym (ap mark_of (first true is))
    by false is rest =
        ap package_of (position_up (λ spelling. bytes_eq spelling p) 0 (paths_of xs))
        ∙ (package_suc (place_of (paths_of xs) p) ∙ (rest ∙ sym (ap mark_of (first false is))))

-- ---- a list that has of another one only what stands first of its name

-- each is the first of its name in the other
abbrev pub AreFirst : List Face → List Face → Type 0
AreFirst few env = (k : ℕ) (f : Face) → slice_get few k ≡ Some f → first_named face_path env f.path ≡ Some f

-- if the other has such a name, so has the list
abbrev pub HasFirst : List Face → List Face → List ℕ → Type 0
HasFirst few env p = (f : Face) → first_named face_path env p ≡ Some f → (k : ℕ) × (slice_get few k ≡ Some f)

some_once : {X : Type 0} (r : Option X) (a b : X) → r ≡ Some a → r ≡ Some b → a ≡ b
some_once r a b x y = cc

pub first_same : (few env : List Face) (p : List ℕ) → AreFirst few env → HasFirst few env p → first_named face_path few p ≡ first_named face_path env p
first_same few env p first has = by (first_named face_path env p) refl
  where
    none : (r : Option Face) → first_named face_path few p ≡ r → first_named face_path env p ≡ None → r ≡ None
    none None is nothing = refl
    none (Some g) is nothing =
        let there = first_is p few g is in
        let too : first_named face_path env p ≡ Some g = ap (first_named face_path env) (sym there.0) ∙ first there.1.0 g there.1.1 in
        absurd cc

    by : (r : Option Face) → first_named face_path env p ≡ r → first_named face_path few p ≡ first_named face_path env p
    by None is = none (first_named face_path few p) refl is ∙ sym is
    by (Some f) is =
        let named = (first_is p env f is).0 in
        let among = has f is in
        let g = first_there p few among.0 f among.1 named in
        let there = first_is p few g.0 g.1 in
        let too : first_named face_path env p ≡ Some g.0 = ap (first_named face_path env) (sym there.0) ∙ first there.1.0 g.0 there.1.1 in
        g.1 ∙ (ap Some (some_once (first_named face_path env p) g.0 f too is) ∙ sym is)

-- ---- what is gathered

in_front : {X : Type 0} (xs ys : List X) (i : ℕ) (d : X) → slice_get xs i ≡ Some d → (k : ℕ) × (slice_get (xs ++ ys) k ≡ Some d)
in_front [] ys i d h = absurd cc
in_front (x ∷ xs) ys zero d h = (0, h)
in_front (x ∷ xs) ys (suc i) d h = let r = in_front xs ys i d h in (suc r.0, r.1)

behind : {X : Type 0} (xs ys : List X) (j : ℕ) (d : X) → slice_get ys j ≡ Some d → (k : ℕ) × (slice_get (xs ++ ys) k ≡ Some d)
behind [] ys j d h = (j, h)
behind (x ∷ xs) ys j d h = let r = behind xs ys j d h in (suc r.0, r.1)

last_or_before : (i n : ℕ) → i < suc n → (i ≡ n) ⊎ (i < n)
last_or_before zero zero low = inl refl
last_or_before zero (suc n) low = inr (omega arith)
last_or_before (suc i) zero low = absurd (omega (arith, low))
last_or_before (suc i) (suc n) low = elim (last_or_before i n (omega (arith, low))) [
  | inl e ↦ inl (ap suc e)
  | inr l ↦ inr (omega (arith, l))
]

gather_has : {X : Type 0} (g : ℕ → List X) (n i j : ℕ) (d : X) → i < n → slice_get (g i) j ≡ Some d → (k : ℕ) × (slice_get (gather g n) k ≡ Some d)
gather_has g zero i j d low h = absurd (omega (arith, low))
gather_has {X} g (suc n) i j d low h = elim (last_or_before i n low) [
  | inl e ↦ behind (gather g n) (g n) j d (subst (λ (m : ℕ). slice_get (g m) j ≡ Some d) e h)
  | inr l ↦ (let r = gather_has g n i j d l h in in_front (gather g n) (g n) r.0 d r.1)
]

-- ---- the packages that imports name

listed : (r : Option Face) (j : ℕ) (f : Face) → slice_get (option_to_list r) j ≡ Some f → r ≡ Some f
listed None j f h = absurd cc
listed (Some g) zero f h = h
listed (Some g) (suc j) f h = absurd cc

listed_within : (limit : Option Limit) (r : Option Face) (j : ℕ) (f : Face) → slice_get (faces_within limit r) j ≡ Some f → r ≡ Some f
listed_within None r j f h = listed r j f h
listed_within (Some l) r j f h = absurd cc

one_listed : (limit : Option Limit) (r : Option Face) (f : Face) → limit ≡ None → r ≡ Some f → slice_get (faces_within limit r) 0 ≡ Some f
one_listed None r f free e = ap (λ (x : Option Face). slice_get (option_to_list x) 0) e
one_listed (Some l) r f free e = absurd cc

module _ (u : Unit) where
  for_node : (file : ℕ) (node : Node) (j : ℕ) (f : Face) → slice_get (face_for u file node) j ≡ Some f → first_named face_path u.env f.path ≡ Some f
  for_node file node j f h = by (is_import node.kind) h where
    by : (b : Bool) → slice_get (if b then faces_within (node_limit u file node) (led_by u file node) else []) j ≡ Some f → first_named face_path u.env f.path ≡ Some f
    by true at =
        let led : led_by u file node ≡ Some f = listed_within (node_limit u file node) (led_by u file node) j f at in
        let named = (first_is (path_of (last_spelled u file node)) u.env f led).0 in
        ap (first_named face_path u.env) named ∙ led
    by false at = absurd cc

  for_number : (file n j : ℕ) (f : Face) → slice_get (nth_face u file n) j ≡ Some f → first_named face_path u.env f.path ≡ Some f
  for_number file n j f h = by (slice_get (nodes_at u file) n) h where
    by : (r : Option Node) → slice_get (option_map_or (face_for u file) r []) j ≡ Some f → first_named face_path u.env f.path ≡ Some f
    by None at = absurd cc
    by (Some node) at = for_node file node j f at

  are_first : AreFirst (imported u) u.env
  unfolding imported_by
  are_first k f h =
      let of_file = gather_cases (faces_for u) (length u.trees) k f h in
      let of_node = gather_cases (nth_face u of_file.0) (length (nodes_at u of_file.0)) of_file.1 f of_file.3 in
      for_number of_file.0 of_node.0 of_node.1 f of_node.3

  in_trees : (file n : ℕ) (node : Node) → slice_get (nodes_at u file) n ≡ Some node → file < length u.trees
  in_trees file n node at = by (slice_get u.trees file) refl at where
    by : (r : Option FileTree) → slice_get u.trees file ≡ r → slice_get (nodes_of r) n ≡ Some node → file < length u.trees
    by None is here = absurd cc
    by (Some tree) is here = slice_get_within u.trees file tree is

  has_first : (file n : ℕ) (node : Node) → slice_get (nodes_at u file) n ≡ Some node → is_import node.kind ≡ true → node_limit u file node ≡ None
      → HasFirst (imported u) u.env (path_of (last_spelled u file node))
  unfolding imported_by
  has_first file n node at import_node free f led =
      let here : slice_get (face_for u file node) 0 ≡ Some f =
      ap (λ (b : Bool). slice_get (if b then faces_within (node_limit u file node) (led_by u file node) else []) 0) import_node ∙ one_listed (node_limit u file node) (led_by u file node) f free led in
      let numbered : slice_get (nth_face u file n) 0 ≡ Some f = ap (λ (r : Option Node). slice_get (option_map_or (face_for u file) r []) 0) at ∙ here in
      let in_file = gather_has (nth_face u file) (length (nodes_at u file)) n 0 f (slice_get_within (nodes_at u file) n node at) numbered in
      gather_has (faces_for u) (length u.trees) file in_file.0 f (in_trees file n node at) in_file.1

  -- of an import's path the same is known
  pub led_same : (file n : ℕ) (node : Node) → slice_get (nodes_at u file) n ≡ Some node → is_import node.kind ≡ true → node_limit u file node ≡ None
      → first_named face_path (imported u) (path_of (last_spelled u file node)) ≡ first_named face_path u.env (path_of (last_spelled u file node))
  led_same file n node at import_node free = first_same (imported u) u.env (path_of (last_spelled u file node)) are_first (has_first file n node at import_node free)

  -- ---- what imports lead to

  with_name : (env : List Face) (p : List ℕ) (name : List ℕ) (place : Option ℕ)
      → option_and_then (λ i. option_and_then (exported_in name) (slice_get env i)) place ≡ option_and_then (exported_in name) (option_and_then (slice_get env) place)
  with_name env p name None = refl
  with_name env p name (Some i) = refl

  exports_by : (file n : ℕ) (node : Node) (name : List ℕ) → slice_get (nodes_at u file) n ≡ Some node
      → option_and_then (exported_by (imported u) name) (lead_of (bare u) file node) ≡ option_and_then (exported_by u.env name) (lead_of u file node)
  exports_by file n node name at = by (is_import node.kind) refl where
    literal : List ℕ
    literal = last_spelled u file node

    by : (b : Bool) → is_import node.kind ≡ b
        → option_and_then (exported_by (imported u) name) (if b then Some (lead_by (imported u) literal node.kind) else None) ≡ option_and_then (exported_by u.env name) (if b then Some (lead_by u.env literal node.kind) else None)
    by true is = within (node_limit u file node) refl where
      by_place : List Face → Option ℕ → Option Meaning
      by_place env place = option_and_then (λ i. option_and_then (exported_in name) (slice_get env i)) place

      within : (limit : Option Limit) → node_limit u file node ≡ limit
          → by_place (imported u) (place_within limit (imported u) (path_of literal)) ≡ by_place u.env (place_within limit u.env (path_of literal))
      within None free =
          with_name (imported u) literal name (place_of (paths_of (imported u)) (path_of literal))
          ∙ (ap (option_and_then (exported_in name)) (led_same file n node at is free) ∙ sym (with_name u.env literal name (place_of (paths_of u.env) (path_of literal))))
      within (Some l) bound = refl
    by false is = refl

  exports_at : (at : NodeRef) (name : List ℕ) → option_and_then (exported_by (imported u) name) (lead_at (bare u) at) ≡ option_and_then (exported_by u.env name) (lead_at u at)
  exports_at at name = by (node_at u at) refl where
    by : (r : Option Node) → node_at u at ≡ r
        → option_and_then (exported_by (imported u) name) (option_and_then (lead_of (bare u) at.file) r) ≡ option_and_then (exported_by u.env name) (option_and_then (lead_of u at.file) r)
    by None is = refl
    by (Some node) is = exports_by at.file at.node node name is

  -- what a package that is imported has for a name
  pub bare_exports : (name : List ℕ) (object : Option Object) → exported_of (bare u) name object ≡ exported_of u name object
  bare_exports name None = refl
  bare_exports name (Some (o.Import at)) = exports_at at name
  bare_exports name (Some (o.Universe i)) = refl
  bare_exports name (Some (o.Local at)) = refl
  bare_exports name (Some (o.Package at)) = refl

  -- ---- what imports mean

  meaning_for : (file n : ℕ) (node : Node) (limit : Option Limit) → slice_get (nodes_at u file) n ≡ Some node → is_import node.kind ≡ true → node_limit u file node ≡ limit
      → meaning_by limit (place_within limit (imported u) (path_of (last_spelled u file node))) ≡ meaning_by limit (place_within limit u.env (path_of (last_spelled u file node)))
  meaning_for file n node None at is free =
      package_first (path_of (last_spelled u file node)) (imported u)
      ∙ (ap (λ (r : Option Face). option_map_or (λ (f : Face). package_mark) r Quiet) (led_same file n node at is free) ∙ sym (package_first (path_of (last_spelled u file node)) u.env))
  meaning_for file n node (Some l) at is bound = refl

  pub bare_meaning : (at : NodeRef) → import_meaning (bare u) at ≡ import_meaning u at
  bare_meaning at = by (node_at u at) refl where
    of_lead : Lead → Meaning
    of_lead l = meaning_by l.limit l.interface

    by_kind : (node : Node) (b : Bool) → node_at u at ≡ Some node → is_import node.kind ≡ b
        → option_map_or of_lead (if b then Some (lead_by (imported u) (last_spelled u at.file node) node.kind) else None) Quiet
        ≡ option_map_or of_lead (if b then Some (lead_by u.env (last_spelled u at.file node) node.kind) else None) Quiet
    by_kind node true here is = meaning_for at.file at.node node (node_limit u at.file node) here is refl
    by_kind node false here is = refl

    by : (r : Option Node) → node_at u at ≡ r
        → option_map_or of_lead (option_and_then (lead_of (bare u) at.file) r) Quiet ≡ option_map_or of_lead (option_and_then (lead_of u at.file) r) Quiet
    by None here = refl
    by (Some node) here = by_kind node (is_import node.kind) here refl

  -- the limit of an import doesn't rest on what is known
  pub bare_limit : (at : NodeRef) → import_limit (bare u) at ≡ import_limit u at
  bare_limit at = by (node_at u at) where
    by_kind : (node : Node) (b : Bool)
        → option_and_then (λ (l : Lead). l.limit) (if b then Some (lead_by (imported u) (last_spelled u at.file node) node.kind) else None)
        ≡ option_and_then (λ (l : Lead). l.limit) (if b then Some (lead_by u.env (last_spelled u at.file node) node.kind) else None)
    by_kind node true = refl
    by_kind node false = refl

    by : (r : Option Node) → option_and_then (λ (l : Lead). l.limit) (option_and_then (lead_of (bare u) at.file) r) ≡ option_and_then (λ (l : Lead). l.limit) (option_and_then (lead_of u at.file) r)
    by None = refl
    by (Some node) = by_kind node (is_import node.kind)

-- ---- over another environment

gather_same : {X : Type 0} (g h : ℕ → List X) (n : ℕ) → ((k : ℕ) → g k ≡ h k) → gather g n ≡ gather h n
gather_same g h zero same = refl
gather_same g h (suc n) same = ap (λ xs. xs ++ g n) (gather_same g h n same) ∙ ap (λ xs. gather h n ++ xs) (same n)

-- the package over another environment
abbrev pub over : Unit → List Face → Unit
over u env = record { path = u.path; texts = u.texts; trees = u.trees; uses = u.uses; env = env; redeclared = u.redeclared; cyclic = u.cyclic; circular = u.circular; owner = u.owner }

module _ (u : Unit) (world : List Face)
    (same : (file n : ℕ) (node : Node) → slice_get (nodes_at u file) n ≡ Some node → is_import node.kind ≡ true → node_limit u file node ≡ None
    → first_named face_path world (path_of (last_spelled u file node)) ≡ first_named face_path u.env (path_of (last_spelled u file node))) where
  same_node : (file n : ℕ) (node : Node) → slice_get (nodes_at u file) n ≡ Some node → face_for (over u world) file node ≡ face_for u file node
  same_node file n node at = by (is_import node.kind) refl where
    within : is_import node.kind ≡ true → (limit : Option Limit) → node_limit u file node ≡ limit → faces_within limit (led_by (over u world) file node) ≡ faces_within limit (led_by u file node)
    within is None free = ap option_to_list (same file n node at is free)
    within is (Some l) bound = refl

    by : (b : Bool) → is_import node.kind ≡ b
        → (if b then faces_within (node_limit u file node) (led_by (over u world) file node) else []) ≡ (if b then faces_within (node_limit u file node) (led_by u file node) else [])
    by true is = within is (node_limit u file node) refl
    by false is = refl

  same_number : (file n : ℕ) → nth_face (over u world) file n ≡ nth_face u file n
  same_number file n = by (slice_get (nodes_at u file) n) refl where
    by : (r : Option Node) → slice_get (nodes_at u file) n ≡ r → option_map_or (face_for (over u world) file) r [] ≡ option_map_or (face_for u file) r []
    by None at = refl
    by (Some node) at = same_node file n node at

  -- where the same is known of the packages to which imports may lead, rules read the same
  pub imported_same : imported (over u world) ≡ imported u
  unfolding imported_by
  imported_same = gather_same (faces_for (over u world)) (faces_for u) (length u.trees) (λ file. gather_same (nth_face (over u world) file) (nth_face u file) (length (nodes_at u file)) (same_number file))

  pub bare_same : bare (over u world) ≡ bare u
  bare_same = ap (λ (env : List Face). over u env) imported_same
