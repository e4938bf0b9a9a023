-- To whom functions hand on, call by call, and the items that these give.
use Rattle.std.proofs.Common.{◌≡◌, ◌⊎◌, ◌↔◌, ◌<◌, ◌+◌, ◌==◌, inl, inr, ℕ, zero, suc, Bool, true, false, not, ◌&&◌, ◌||◌, List, [], ◌∷◌, ◌++◌, length, Option, Some, None, refl, sym, ap, ◌∙◌, subst, if◌then◌else◌, arith}
use Rattle.std.specs.Prelude.{slice_get, bytes_eq, option_and_then}
use Rattle.std.specs.Global.{Vec}
use Rattle.std.specs.Bool.{Decides}
use Rattle.std.specs.List.{Contains, list_any}
use Rattle.std.specs.Option.{option_map_or}
use Rattle.std.proofs.lemmas.Bool.{cases_eq, eqb-true, eq-eqb}
use Rattle.std.proofs.lemmas.Option.{slice_get_within}
use Rattle.std.proofs.lemmas.Slice.Eq.{bytes_eq-Decides}
use Rattle.std.proofs.lemmas.List.Elements.{Contains-append_left, Contains-append_right, Contains-append_cases, Contains-push, Contains-push_cases}
use Rattle.go_tree.specs.declared.tree.FileTree.{FileTree}
use Rattle.go_tree.specs.declared.tree.Node.{Node}
use Rattle.go_tree.specs.declared.tree.NodeRef.{NodeRef}
use Rattle.object_order.specs.Spots.{place}
use Rattle.package_objects.specs.Declares.{part, gather}
use Rattle.typed_marks.specs.declared.item.Item.{Item}
use Rattle.typed_marks.specs.Meanings.{Meaning}
use Rattle.unit_read.specs.Units.{Unit, nodes_at, nodes_of, tree_at}
use Rattle.least.specs.Tables.{Member, member}
use Rattle.member_names.specs.declared.named.Named.{Named}
use Rattle.member_names.specs.Named.{IsNamed}
use Rattle.member_names.specs.InCode.{found_named}
use Rattle.vet_words.specs.Forms.{bare}
use Rattle.vet_printf.specs.declared.shapes.Shape.{Shape}
use Rattle.vet_printf.specs.Forwards.{is_spread_call, declaration_of, hands, HandsOn, Forwards}
use Rattle.vet_printf.specs.Handing.{IsSpreadCallee, AreNamed, is_place, declares_at, hands_node, hands_in, hands_from, hands_at, of_kind, forward_at, forwards_in, forwards_by, with_number, numbers_in, item_of, cell_in, named_cell, AreCellRow, AreCellRows}
use Rattle.vet_printf.specs.Wrappers.{HandsTo, IsSettled, IsItem}
use Rattle.vet_printf.proofs.AskLemmas.{any_has, has_any}
use Rattle.vet_printf.proofs.FitLemmas.{past}
use Rattle.vet_printf.proofs.ReaderLemmas.{same_some, either}

-- ---- tests

pub some_true : {X : Type 0} (test : X → Bool) (o : Option X) → option_map_or test o false ≡ true → (x : X) × (o ≡ Some x) × (test x ≡ true)
some_true test None e = absurd cc
some_true test (Some x) e = (x, refl, e)

pub true_some : {X : Type 0} (test : X → Bool) (o : Option X) (x : X) → o ≡ Some x → test x ≡ true → option_map_or test o false ≡ true
true_some test o x is e = ap (λ p. option_map_or test p false) is ∙ e

and_cases : (a b : Bool) → (a && b) ≡ true → (a ≡ true) × (b ≡ true)
and_cases true true e = (refl, refl)
and_cases true false e = absurd cc
and_cases false b e = absurd cc

pub and_both : (a b : Bool) → a ≡ true → b ≡ true → (a && b) ≡ true
and_both a b e f = ap (λ x. x && b) e ∙ f

or_cases : (a b : Bool) → (a || b) ≡ true → (a ≡ true) ⊎ (b ≡ true)
or_cases true b e = inl refl
or_cases false b e = inr e

or_left : (a b : Bool) → a ≡ true → (a || b) ≡ true
or_left a b e = ap (λ x. x || b) e

or_right : (a b : Bool) → b ≡ true → (a || b) ≡ true
or_right true b e = refl
or_right false b e = e

same_bytes : (x y : List ℕ) → bytes_eq x y ≡ true → x ≡ y
same_bytes x y e = at (bytes_eq x y) (bytes_eq-Decides x y) e where
  at : (b : Bool) → Decides b (x ≡ y) → b ≡ true → x ≡ y
  at true d h = d.0 refl
  at false d h = absurd (cc)

pub bytes_same : (x y : List ℕ) → x ≡ y → bytes_eq x y ≡ true
bytes_same x y e = at (bytes_eq x y) (bytes_eq-Decides x y) where
  at : (b : Bool) → Decides b (x ≡ y) → b ≡ true
  at true d = refl
  at false d = d.1 e

pub same_place : (f n : ℕ) (at : NodeRef) → is_place f n at ≡ true → at ≡ place f n
same_place f n at e =
    let both = and_cases (at.file == f) (at.node == n) e in
    ap (λ x. place x at.node) (eqb-true at.file f both.0) ∙ ap (λ x. place f x) (eqb-true at.node n both.1)

pub place_same : (f n : ℕ) → is_place f n (place f n) ≡ true
place_same f n = and_both (f == f) (n == n) (eq-eqb f f refl) (eq-eqb n n refl)

-- ---- lists

none_in : {X : Type 0} (b : X) → Contains [] b → ⊥
none_in b (k, low, e) = omega arith

pub single_is : {X : Type 0} (a b : X) → Contains (a ∷ []) b → a ≡ b
single_is {X} a b there = elim (Contains-push_cases {X = X} [] a b there) [ inl none ↦ absurd (none_in b none) | inr same ↦ same ]

pub gathered_at : {X : Type 0} (g : ℕ → List X) (x : X) (n : ℕ) → Contains (gather g n) x → (k : ℕ) × (k < n) × Contains (g k) x
gathered_at g x zero has = absurd (none_in x has)
gathered_at g x (suc n) has = elim (Contains-append_cases (gather g n) (g n) x has) [
  | inl before ↦ (let r = gathered_at g x n before in (r.0, (let low = r.1 in omega (arith, low)), r.2))
  | inr here ↦ (n, omega arith, here)
]

at_gathered : {X : Type 0} (g : ℕ → List X) (x : X) (n k : ℕ) → k < n → Contains (g k) x → Contains (gather g n) x
at_gathered g x zero k low has = absurd (omega (arith, low))
at_gathered {X} g x (suc n) k low has = elim (cases_eq k n) [
  | inl same ↦ Contains-append_right (gather g n) (g n) x (subst (λ (i : ℕ). Contains (g i) x) same has)
  | inr apart ↦ Contains-append_left (gather g n) (g n) x (at_gathered g x n k (omega arith) has)
]

if_holds : {X : Type 0} (b : Bool) (list : List X) (x : X) → Contains (if b then list else []) x → (b ≡ true) × Contains list x
if_holds true list x has = (refl, has)
if_holds false list x has = absurd (none_in x has)

pub some_in : {X Y : Type 0} (g : X → List Y) (o : Option X) (y : Y) → Contains (option_map_or g o []) y → (x : X) × (o ≡ Some x) × Contains (g x) y
some_in g None y has = absurd (none_in y has)
some_in g (Some x) y has = (x, refl, has)

-- a file with nodes is there
pub file_there : (u : Unit) (f n : ℕ) (x : Node) → slice_get (nodes_at u f) n ≡ Some x → f < length u.trees
file_there u f n x at = by (tree_at u f) refl where
  nothing : {X : Type 0} (k : ℕ) (y : X) → slice_get [] k ≡ Some y → ⊥
  nothing k y e = let low = slice_get_within [] k y e in omega (arith, low)

  by : (o : Option FileTree) → tree_at u f ≡ o → f < length u.trees
  by (Some tree) e = slice_get_within u.trees f tree e
  by None e = absurd (nothing n x (ap (λ o. slice_get (nodes_of o) n) (sym e) ∙ at))

-- ---- calls

module _ (named : NodeRef → Option (List ℕ × List ℕ)) (declared : List ℕ → Option NodeRef) (u : Unit) (marks : Item → Meaning) (are : AreNamed u marks named) where
  forward_hands : (m g : Member) (f n : ℕ) → Contains (forward_at named declared u marks m f n) g → HandsOn declared u marks f n m g
  forward_hands m g f n has =
      let b = if_holds (hands_at declared u marks f n m) (option_map_or (of_kind m.kind) (named (place f n)) []) g has in
      let c = some_true (hands_from declared u marks f n m) (slice_get (nodes_at u f) n) b.0 in
      let d = and_cases (is_spread_call c.0.kind) (option_map_or (hands_in declared u marks f c.0 m) (declaration_of u f n) false) c.2 in
      let e = some_true (hands_in declared u marks f c.0 m) (declaration_of u f n) d.1 in
      let p = and_cases (bytes_eq m.path u.path) (declares_at declared f e.0 m && option_map_or (hands_node u marks f c.0 m.kind) (slice_get (nodes_at u f) e.0) false) e.2 in
      let q = and_cases (declares_at declared f e.0 m) (option_map_or (hands_node u marks f c.0 m.kind) (slice_get (nodes_at u f) e.0) false) p.1 in
      let r = some_true (is_place f e.0) (declared m.name) q.0 in
      let s = some_true (hands_node u marks f c.0 m.kind) (slice_get (nodes_at u f) e.0) q.1 in
      let x = some_in (of_kind m.kind) (named (place f n)) g b.1 in
      let is : member x.0.0 x.0.1 m.kind ≡ g = single_is (member x.0.0 x.0.1 m.kind) g x.2 in
      let callee = (are f n x.0).0 x.1 in
      let same : callee.0 ≡ c.0 = same_some (sym callee.1 ∙ c.1) in
      record {
        call = c.0;
        there = c.1;
        spread = d.0;
        declaration = e.0;
        inside = e.1;
        node = s.0;
        at = s.1;
        own = same_bytes m.path u.path p.0;
        declares = r.1 ∙ ap (λ (k : NodeRef). Some k) (same_place f e.0 r.0 r.2);
        callee = callee.2.1.0;
        calls = sym (ap (λ (k : Node). part k 0) same) ∙ callee.2.1.1;
        named = subst (λ (k : Member). IsNamed u marks f (bare (nodes_at u f) callee.2.1.0) (k.path, k.name)) is callee.2.1.2;
        kind = sym (ap (λ (k : Member). k.kind) is);
        hands_on = s.2;
      }

  hands_forward : (m g : Member) (f n : ℕ) → HandsOn declared u marks f n m g → Contains (forward_at named declared u marks m f n) g
  hands_forward m g f n h =
      let inner = and_both (bytes_eq m.path u.path) (declares_at declared f h.declaration m && option_map_or (hands_node u marks f h.call m.kind) (slice_get (nodes_at u f) h.declaration) false)
      (bytes_same m.path u.path h.own)
      (and_both (declares_at declared f h.declaration m) (option_map_or (hands_node u marks f h.call m.kind) (slice_get (nodes_at u f) h.declaration) false)
      (true_some (is_place f h.declaration) (declared m.name) (place f h.declaration) h.declares (place_same f h.declaration))
      (true_some (hands_node u marks f h.call m.kind) (slice_get (nodes_at u f) h.declaration) h.node h.at h.hands_on)) in
      let test : hands_at declared u marks f n m ≡ true =
      true_some (hands_from declared u marks f n m) (slice_get (nodes_at u f) n) h.call h.there
      (and_both (is_spread_call h.call.kind) (option_map_or (hands_in declared u marks f h.call m) (declaration_of u f n) false) h.spread
      (true_some (hands_in declared u marks f h.call m) (declaration_of u f n) h.declaration h.inside inner)) in
      let is : named (place f n) ≡ Some (g.path, g.name) = (are f n (g.path, g.name)).1 (h.call, h.there, (h.spread, (h.callee, h.calls, h.named))) in
      let one : member g.path g.name m.kind ≡ g = ap (λ k. member g.path g.name k) (sym h.kind) in
      subst (λ (l : List Member). Contains l g)
      (sym (ap (λ b. if b then option_map_or (of_kind m.kind) (named (place f n)) [] else []) test ∙ ap (λ o. option_map_or (of_kind m.kind) o []) is))
      (subst (λ (k : Member). Contains (member g.path g.name m.kind ∷ []) k) one (Contains-push [] (member g.path g.name m.kind)))

  -- the lists tell to whom functions hand on
  pub forwards_told : (m g : Member) → Contains (forwards_by named declared u marks m) g ↔ Forwards declared u marks m g
  forwards_told m g = (
    λ has. (
        let f = gathered_at (forwards_in named declared u marks m) g (length u.trees) has in
        let n = gathered_at (forward_at named declared u marks m f.0) g (length (nodes_at u f.0)) f.2 in
        (f.0, n.0, forward_hands m g f.0 n.0 n.2)
        ),
    λ (f, n, h). at_gathered (forwards_in named declared u marks m) g (length u.trees) f (file_there u f n h.call h.there)
        (at_gathered (forward_at named declared u marks m f) g (length (nodes_at u f)) n (slice_get_within (nodes_at u f) n h.call h.there) (hands_forward m g f n h)),
  )

-- ---- items

not_not : (b : Bool) → (not b ≡ false) ↔ (b ≡ true)
not_not true = (λ e. refl, λ e. refl)
not_not false = (λ e. absurd cc, λ e. absurd cc)

pub numbers_only : (number : Member → Option ℕ) (list : List Member) (j : ℕ) → Contains (numbers_in number list) j → (g : Member) × Contains list g × (number g ≡ Some j)
numbers_only number [] j has = absurd (none_in j has)
numbers_only number (g ∷ list) j has = by (number g) refl (λ there. numbers_only number list j there) has where
  later : (Contains (numbers_in number list) j → (h : Member) × Contains list h × (number h ≡ Some j)) → Contains (numbers_in number list) j → (h : Member) × Contains (g ∷ list) h × (number h ≡ Some j)
  later more has = let r = more has in (r.0, Contains-append_right (g ∷ []) list r.0 r.1, r.2)

  by : (o : Option ℕ) → number g ≡ o → (Contains (numbers_in number list) j → (h : Member) × Contains list h × (number h ≡ Some j)) → Contains (with_number o (numbers_in number list)) j
      → (h : Member) × Contains (g ∷ list) h × (number h ≡ Some j)
  by None e more has = later more has
  by (Some i) e more has = elim (Contains-append_cases (i ∷ []) (numbers_in number list) j has) [
    | inl here ↦ (g, Contains-append_left (g ∷ []) list g (Contains-push [] g), e ∙ ap (λ k. Some k) (single_is i j here))
    | inr rest ↦ later more rest
  ]

numbers_every : (number : Member → Option ℕ) (list : List Member) (g : Member) (j : ℕ) → Contains list g → number g ≡ Some j → Contains (numbers_in number list) j
numbers_every number [] g j there is = absurd (none_in g there)
numbers_every number (x ∷ list) g j there is = elim (Contains-append_cases (x ∷ []) list g there) [
  | inl here ↦ subst (λ (o : Option ℕ). Contains (with_number o (numbers_in number list)) j) (sym (ap number (single_is x g here) ∙ is))
      (Contains-append_left (j ∷ []) (numbers_in number list) j (Contains-push [] j))
  | inr rest ↦ after (number x) (numbers_every number list g j rest is)
]
  where
    after : (o : Option ℕ) → Contains (numbers_in number list) j → Contains (with_number o (numbers_in number list)) j
    after None has = has
    after (Some i) has = Contains-append_right (i ∷ []) (numbers_in number list) j has

pub item_is : (listed : Member → Bool) (forwards : Member → List Member) (given : Member → Bool) (number : Member → Option ℕ) (m : Member) → IsItem listed (HandsTo forwards) given number m (item_of given number (listed m) (forwards m))
item_is listed forwards given number m = record {
  settled = (
    λ e. either (or_cases (listed m) (list_any given (forwards m)) ((not_not (listed m || list_any given (forwards m))).0 e)) (λ l. inl l)
        (λ some. (let r = any_has given (forwards m) some in inr (r.0, r.1, r.2))),
    λ s. (not_not (listed m || list_any given (forwards m))).1 (either s (λ l. or_left (listed m) (list_any given (forwards m)) l)
        (λ (g, there, is). or_right (listed m) (list_any given (forwards m)) (has_any given (forwards m) g there is))),
  );
  only = λ j has. (let r = numbers_only number (forwards m) j has in (r.0, r.1, r.2));
  every = λ g j there is. numbers_every number (forwards m) g j there is;
}

-- ---- the rows of what calls call

module _ (u : Unit) (marks : Item → Meaning) (rows : List (Vec (Option Named))) (are : AreCellRows u marks rows) where
  cell_is : (f n : ℕ) (x : List ℕ × List ℕ) → (named_cell rows (place f n) ≡ Some x) ↔ IsSpreadCallee u marks f n x
  cell_is f n x = by (slice_get rows f) refl where
    -- a node that is there has its file
    file_row : IsSpreadCallee u marks f n x → slice_get rows f ≡ None → ⊥
    file_row (call, there, rest) none =
        let low = file_there u f n call there in
        let size = are.size in
        let high = past rows f none in
        omega (arith, low, size, high)

    node_cell : (row : Vec (Option Named)) → AreCellRow u marks f row → IsSpreadCallee u marks f n x → slice_get row.items n ≡ None → ⊥
    node_cell row cells (call, there, rest) none =
        let low = slice_get_within (nodes_at u f) n call there in
        let size = cells.size in
        let high = past row.items n none in
        omega (arith, low, size, high)

    in_row : (row : Vec (Option Named)) → AreCellRow u marks f row → (o : Option (Option Named)) → slice_get row.items n ≡ o → (option_and_then found_named o ≡ Some x) ↔ IsSpreadCallee u marks f n x
    in_row row cells (Some cell) at = cells.each n cell at x
    in_row row cells None at = (λ e. absurd cc, λ h. absurd (node_cell row cells h at))

    by : (o : Option (Vec (Option Named))) → slice_get rows f ≡ o → (option_and_then (λ (row : Vec (Option Named)). cell_in row.items n) (slice_get rows f) ≡ Some x) ↔ IsSpreadCallee u marks f n x
    by (Some row) at = subst (λ (p : Option (Vec (Option Named))). (option_and_then (λ (r : Vec (Option Named)). cell_in r.items n) p ≡ Some x) ↔ IsSpreadCallee u marks f n x) (sym at)
        (in_row row (are.each f row at) (slice_get row.items n) refl)
    by None at = subst (λ (p : Option (Vec (Option Named))). (option_and_then (λ (r : Vec (Option Named)). cell_in r.items n) p ≡ Some x) ↔ IsSpreadCallee u marks f n x) (sym at)
        (λ e. absurd cc, λ h. absurd (file_row h at))

  -- they tell what each calls
  pub cells_named : AreNamed u marks (named_cell rows)
  cells_named f n x = cell_is f n x
