-- What is chosen of an order is what leads back to itself.
use Rattle.std.proofs.Common.{◌≡◌, ◌⊎◌, ◌<◌, ◌≤◌, ◌+◌, ℕ, zero, suc, IsTrue, Bool, true, false, ◌&&◌, nat_eq, if◌then◌else◌, is_some, List, [], ◌∷◌, ◌++◌, length, slice_get, slice_index_or, Option, Some, None, option_and_then, refl, sym, ap, ◌∙◌, subst, inl, inr, arith}
use Rattle.std.proofs.Math.Path.{fun_ext}
use Rattle.std.proofs.lemmas.Bool.{eqb-true, eq-eqb}
use Rattle.std.specs.Global.{Vec}
use Rattle.std.specs.HashMap.{HashMap}
use Rattle.std.specs.List.{Contains, flat_map}
use Rattle.std.specs.Option.{option_map_or}
use Rattle.go_tree.specs.Spells.{Among}
use Rattle.go_tree.specs.declared.tree.FileTree.{FileTree}
use Rattle.go_tree.specs.declared.tree.NodeRef.{NodeRef}
use Rattle.object_order.specs.declared.needed.Needed.{Needed}
use Rattle.object_order.specs.declared.spot.Entry.{Entry}
use Rattle.object_order.specs.Cases.{HasMention, IsMethodOf, own, by_name, Reaches}
use Rattle.object_order.specs.Names.{AreNamed, IsNamed}
use Rattle.object_order.specs.Paths.{Path, Leads}
use Rattle.object_order.specs.Spots.{World}
use Rattle.object_order.specs.Views.{same_key, node_in, number_in, entry_in, meant_in, group_in, kin_in}
use Rattle.name_circles.specs.Circles.{Circles, AreMarked}
use Rattle.value_circles.specs.Values.{value_entries}
use Rattle.value_circles.specs.Circles.{first_named, world_by, world_of, RefersTo, flag, IsInitialCircle, AreInitialCircles}
use Rattle.value_circles.specs.Chosen.{is_chosen, if_chosen}

-- ---- the first declaration of a name

none_some : {X : Type 0} (x : X) → ◌≡◌ {A = Option X} None (Some x) → ⊥
none_some x e = cc

-- the same key, the same node
abbrev pair : ℕ → ℕ → ℕ × ℕ
pair a b = (a, b)

key_parts : (a b : ℕ × ℕ) → same_key a b ≡ true → a ≡ b
key_parts a b is = at (nat_eq a.0 b.0) (nat_eq a.1 b.1) refl refl is where
  at : (x y : Bool) → nat_eq a.0 b.0 ≡ x → nat_eq a.1 b.1 ≡ y → (x && y) ≡ true → a ≡ b
  at true true e f h = ap (λ (x : ℕ). pair x a.1) (eqb-true a.0 b.0 e) ∙ ap (λ (y : ℕ). pair b.0 y) (eqb-true a.1 b.1 f)
  at true false e f h = absurd cc
  at false y e f h = absurd cc

key_itself : (a : ℕ × ℕ) → same_key a a ≡ true
key_itself a = ap (λ x. x && nat_eq a.1 a.1) (eq-eqb a.0 a.0 refl) ∙ eq-eqb a.1 a.1 refl

same_node : (a b : NodeRef) → same_key (a.file, a.node) (b.file, b.node) ≡ true → a ≡ b
same_node a b e =
    let both : (a.file, a.node) ≡ (b.file, b.node) = key_parts (a.file, a.node) (b.file, b.node) e in
    ap (λ (p : ℕ × ℕ). node_ref p.0 p.1) both
  where
    node_ref : ℕ → ℕ → NodeRef
    node_ref f n = record { file = f; node = n }

no_first : (at : NodeRef) (entries : List Entry) → ((k : ℕ) (e : Entry) → slice_get entries k ≡ Some e → e.name ≡ at → ⊥) → first_named at entries ≡ None
no_first at [] none = refl
no_first at (e ∷ entries) none = by (same_key (at.file, at.node) (e.name.file, e.name.node)) refl (no_first at entries (λ k d there. none (suc k) d there)) where
  by : (b : Bool) → same_key (at.file, at.node) (e.name.file, e.name.node) ≡ b → first_named at entries ≡ None → (if b then Some e else first_named at entries) ≡ None
  by true same later = absurd (none 0 e refl (sym (same_node at e.name same)))
  by false same later = later

is_first : (at : NodeRef) (entries : List Entry) (n : ℕ) (e : Entry) → slice_get entries n ≡ Some e → e.name ≡ at
    → ((k : ℕ) (d : Entry) → slice_get entries k ≡ Some d → d.name ≡ at → n ≤ k) → first_named at entries ≡ Some e
is_first at [] n e there named least = absurd cc
is_first at (d ∷ entries) zero e there named least =
    let one : d ≡ e = cc in
    let same : at ≡ d.name = sym named ∙ ap (λ (x : Entry). x.name) (sym one) in
    let key : same_key (at.file, at.node) (d.name.file, d.name.node) ≡ true = sym (ap (λ (x : NodeRef). same_key (at.file, at.node) (x.file, x.node)) same) ∙ key_itself (at.file, at.node) in
    ap (λ (b : Bool). if b then Some d else first_named at entries) key ∙ ap Some one
is_first at (d ∷ entries) (suc n) e there named least = by (same_key (at.file, at.node) (d.name.file, d.name.node)) refl (is_first at entries n e there named (λ k x x_at x_is. (let low = least (suc k) x x_at x_is in omega arith))) where
  by : (b : Bool) → same_key (at.file, at.node) (d.name.file, d.name.node) ≡ b → first_named at entries ≡ Some e → (if b then Some d else first_named at entries) ≡ Some e
  by true same later = absurd (let low = least 0 d refl (sym (same_node at d.name same)) in omega arith)
  by false same later = later

-- ---- paths

-- what leads by the one leads by the other
led : {A : Type 0} (s t : A → A → Type 0) → ((a b : A) → s a b → t a b) → (a b : A) (via : List A) → Path s a via b → Path t a via b
led s t each a b [] edge = each a b edge
led s t each a b (x ∷ via) (edge, rest) = (each a x edge, led s t each x b via rest)

leads_on : {A : Type 0} (s t : A → A → Type 0) → ((a b : A) → s a b → t a b) → (a b : A) → Leads s a b → Leads t a b
leads_on s t each a b (via, path) = (via, led s t each a b via path)

module _ (trees : List FileTree) (meant : NodeRef → Option NodeRef) (entries : List Entry) where
  abbrev w : World
  w = world_by trees meant entries

  no_method : (o m : NodeRef) → IsMethodOf w o m → ⊥
  no_method o m (own among is) = among
  no_method o m (by_name form among is apart more) = among

  by_reach : (x y : NodeRef) → Reaches w x y → RefersTo w x y
  by_reach x y (inl has) = has
  by_reach x y (inr (m, is, has)) = absurd (no_method x m is)

  to_circle : (x : NodeRef) → Circles w x → Leads (RefersTo w) x x
  to_circle x circle = leads_on (Reaches w) (RefersTo w) by_reach x x circle

  from_circle : (x : NodeRef) → Leads (RefersTo w) x x → Circles w x
  from_circle x leads = leads_on (RefersTo w) (Reaches w) (λ a b has. inl has) x x leads

-- ---- members of a list

here : {X : Type 0} (x : X) (xs : List X) → Contains (x ∷ xs) x
here x xs = (0, omega arith, refl)

later : {X : Type 0} (y x : X) (xs : List X) → Contains xs x → Contains (y ∷ xs) x
later y x xs (k, low, is) = (suc k, omega arith, is)

cases : {X : Type 0} (y x : X) (xs : List X) → Contains (y ∷ xs) x → (y ≡ x) ⊎ Contains xs x
cases y x xs (zero, low, is) = inl is
cases y x xs (suc k, low, is) = inr (k, omega arith, is)

nothing_there : {X : Type 0} (x : X) → Contains [] x → ⊥
nothing_there x (k, low, is) = omega arith

module _ {S : Type 0} (variables : HashMap (ℕ × ℕ) ℕ S) (cyclic : List (Vec Bool)) where
  -- an item of the order that is chosen
  record IsChosen (order : List Needed) (at : NodeRef) : Type 0 where
    pub number : ℕ
    pub item : Needed
    pub there : slice_get order number ≡ Some item
    pub object : item.object ≡ at
    pub chosen : is_chosen variables cyclic item ≡ true

  next : (e : Needed) (order : List Needed) (at : NodeRef) → IsChosen order at → IsChosen (e ∷ order) at
  next e order at c = record { number = suc c.number; item = c.item; there = c.there; object = c.object; chosen = c.chosen }

  is_one : (order : List Needed) (at : NodeRef) → Contains (flat_map (if_chosen variables cyclic) order) at → IsChosen order at
  is_one [] at has = absurd (nothing_there at has)
  is_one (e ∷ order) at has = by (is_chosen variables cyclic e) refl has (is_one order at) where
    first : is_chosen variables cyclic e ≡ true → (e.object ≡ at) ⊎ Contains (flat_map (if_chosen variables cyclic) order) at
        → (Contains (flat_map (if_chosen variables cyclic) order) at → IsChosen order at) → IsChosen (e ∷ order) at
    first is (inl same) rest = record { number = 0; item = e; there = refl; object = same; chosen = is }
    first is (inr has) rest = next e order at (rest has)

    by : (b : Bool) → is_chosen variables cyclic e ≡ b → Contains ((if b then e.object ∷ [] else []) ++ flat_map (if_chosen variables cyclic) order) at
        → (Contains (flat_map (if_chosen variables cyclic) order) at → IsChosen order at) → IsChosen (e ∷ order) at
    by true is has rest = first is (cases e.object at (flat_map (if_chosen variables cyclic) order) has) rest
    by false is has rest = next e order at (rest has)

  one_is : (order : List Needed) (k : ℕ) (e : Needed) → slice_get order k ≡ Some e → is_chosen variables cyclic e ≡ true → Contains (flat_map (if_chosen variables cyclic) order) e.object
  one_is [] k e there is = absurd cc
  one_is (x ∷ order) zero e there is =
      let one : x ≡ e = cc in
      subst (λ (y : Needed). Contains (flat_map (if_chosen variables cyclic) (y ∷ order)) e.object) (sym one)
      (subst (λ (b : Bool). Contains ((if b then e.object ∷ [] else []) ++ flat_map (if_chosen variables cyclic) order) e.object) (sym is) (here e.object (flat_map (if_chosen variables cyclic) order)))
  one_is (x ∷ order) (suc k) e there is = by (is_chosen variables cyclic x) (one_is order k e there is) where
    by : (b : Bool) → Contains (flat_map (if_chosen variables cyclic) order) e.object → Contains ((if b then x.object ∷ [] else []) ++ flat_map (if_chosen variables cyclic) order) e.object
    by true has = later x.object e.object (flat_map (if_chosen variables cyclic) order) has
    by false has = has

-- ---- all

-- of three tests that make one, each
three : (a b c : Bool) → (if a then (if b then false else c) else false) ≡ true → (a ≡ true) × (b ≡ false) × (c ≡ true)
three true true c e = absurd cc
three true false c e = (refl, refl, e)
three false b c e = absurd cc

of_three : (a b c : Bool) → a ≡ true → b ≡ false → c ≡ true → (if a then (if b then false else c) else false) ≡ true
of_three a b c x y z = ap (λ p. if p then (if b then false else c) else false) x ∙ (ap (λ q. if q then false else c) y ∙ z)

some_number : (o : Option ℕ) → is_some o ≡ true → (n : ℕ) × (o ≡ Some n)
some_number None e = absurd cc
some_number (Some n) e = (n, refl)

module _ {S : Type 0} (entries : List Entry) (numbers : HashMap (ℕ × ℕ) ℕ S) (named : AreNamed entries numbers) where
  entry_is : (at : NodeRef) → entry_in entries numbers at ≡ first_named at entries
  entry_is at = by (number_in numbers (at.file, at.node)) refl where
    by : (o : Option ℕ) → number_in numbers (at.file, at.node) ≡ o → option_and_then (λ n. slice_get entries n) o ≡ first_named at entries
    by None none = sym (no_first at entries (λ k e there same. (let n = named.has k e there in none_some n.0 (sym none ∙ (ap (λ (x : NodeRef). number_in numbers (x.file, x.node)) (sym same) ∙ n.1)))))
    by (Some n) is = (let e = named.«is» n at is in
        e.1 ∙ sym (is_first at entries n e.0 e.1 e.2 (λ k d there same. named.first n k d (ap (λ (x : NodeRef). number_in numbers (x.file, x.node)) same ∙ is) there)))

  is_numbered : (at : NodeRef) → IsNamed entries at → is_some (number_in numbers (at.file, at.node)) ≡ true
  is_numbered at (k, e, there, same) = (let n = named.has k e there in ap is_some (ap (λ (x : NodeRef). number_in numbers (x.file, x.node)) (sym same) ∙ n.1))

  numbered_is : (at : NodeRef) → is_some (number_in numbers (at.file, at.node)) ≡ true → IsNamed entries at
  numbered_is at is = (let n = some_number (number_in numbers (at.file, at.node)) is in let e = named.«is» n.0 at n.1 in (n.0, e.0, e.1, e.2))

no_kin : {S : Type 0} (groups : List (Vec NodeRef)) (numbers : HashMap (ℕ × ℕ) ℕ S) (at : NodeRef) → groups ≡ [] → kin_in groups numbers at ≡ []
no_kin groups numbers at none = ap (λ (g : List (Vec NodeRef)). kin_in g numbers at) none ∙ by (number_in numbers (at.file, at.node)) where
  by : (o : Option ℕ) → option_map_or (λ n. group_in [] n) o [] ≡ []
  by None = refl
  by (Some n) = refl

in_front : (first second : List Entry) (k : ℕ) (e : Entry) → slice_get first k ≡ Some e → slice_get (first ++ second) k ≡ Some e
in_front [] second k e there = absurd cc
in_front (x ∷ first) second zero e there = there
in_front (x ∷ first) second (suc k) e there = in_front first second k e there

module _ {S : Type 0} (trees : List FileTree) (meant : List (Vec (Option NodeRef))) (cyclic : List (Vec Bool)) (variables bodies entries : List Entry) (own_numbers numbers : HashMap (ℕ × ℕ) ℕ S)
    (groups : List (Vec NodeRef)) (order : List Needed) (list : List NodeRef) (found : variables ≡ value_entries trees) (joined : entries ≡ variables ++ bodies)
    (own_named : AreNamed variables own_numbers) (named : AreNamed entries numbers) (none : groups ≡ [])
    (marked : AreMarked (record { node = node_in trees; meant = meant_in meant; entry = entry_in entries numbers; kin = kin_in groups numbers }) entries order)
    (is : list ≡ flat_map (if_chosen own_numbers cyclic) order) where
  abbrev all : World
  all = world_of trees (meant_in meant) bodies

  abbrev with_both : (NodeRef → Option Entry) → (NodeRef → List NodeRef) → World
  with_both entry kin = record { node = node_in trees; meant = meant_in meant; entry = entry; kin = kin }

  joined_is : entries ≡ value_entries trees ++ bodies
  joined_is = joined ∙ ap (λ (l : List Entry). l ++ bodies) found

  one_world : with_both (entry_in entries numbers) (kin_in groups numbers) ≡ all
  one_world =
      ap (λ (g : NodeRef → Option Entry). with_both g (kin_in groups numbers)) (fun_ext (entry_is entries numbers named))
      ∙ (ap (with_both (λ at. first_named at entries)) (fun_ext (λ at. no_kin groups numbers at none))
      ∙ ap (world_by trees (meant_in meant)) joined_is)

  whole : AreMarked all entries order
  whole = subst (λ (w : World). AreMarked w entries order) one_world marked

  from_list : (at : NodeRef) → Contains list at → IsInitialCircle trees (meant_in meant) (flag cyclic) bodies at
  from_list at has =
      let c = is_one own_numbers cyclic order at (subst (λ (l : List NodeRef). Contains l at) is has) in
      let tests = three c.item.cyclic (flag cyclic c.item.object) (is_some (number_in own_numbers (c.item.object.file, c.item.object.node))) c.chosen in
      record {
        variable = subst (λ (l : List Entry). IsNamed l at) found
            (numbered_is variables own_numbers own_named at (ap (λ (o : NodeRef). is_some (number_in own_numbers (o.file, o.node))) (sym c.object) ∙ tests.2));
        plain = ap (λ (o : NodeRef). flag cyclic o) (sym c.object) ∙ tests.1;
        reaches = subst (λ (o : NodeRef). Leads (RefersTo all) o o) c.object
            (to_circle trees (meant_in meant) (value_entries trees ++ bodies) c.item.object ((whole.marks c.number c.item c.there refl).0 tests.0));
      }

  to_list : (at : NodeRef) → IsInitialCircle trees (meant_in meant) (flag cyclic) bodies at → Contains list at
  to_list at x =
      let n = x.variable in
      let here : IsNamed entries at = (n.0, n.1, ap (λ (l : List Entry). slice_get l n.0) joined_is ∙ in_front (value_entries trees) bodies n.0 n.1 n.2, n.3) in
      let e = whole.each at here in
      let same : e.1.object ≡ at = e.3 in
      let cyclic_is = (whole.marks e.0 e.1 e.2 refl).1 (subst (λ (o : NodeRef). Circles all o) (sym same) (from_circle trees (meant_in meant) (value_entries trees ++ bodies) at x.reaches)) in
      let own_is = is_numbered variables own_numbers own_named at (subst (λ (l : List Entry). IsNamed l at) (sym found) x.variable) in
      let chosen = of_three e.1.cyclic (flag cyclic e.1.object) (is_some (number_in own_numbers (e.1.object.file, e.1.object.node))) cyclic_is (ap (λ (o : NodeRef). flag cyclic o) same ∙ x.plain)
      (ap (λ (o : NodeRef). is_some (number_in own_numbers (o.file, o.node))) same ∙ own_is) in
      subst (λ (o : NodeRef). Contains list o) same (subst (λ (l : List NodeRef). Contains l e.1.object) (sym is) (one_is own_numbers cyclic order e.0 e.1 e.2 chosen))

  pub are_circles : AreInitialCircles trees (meant_in meant) (flag cyclic) bodies list
  are_circles at = (from_list at, to_list at)
