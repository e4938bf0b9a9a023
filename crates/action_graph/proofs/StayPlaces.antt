-- Where the nodes of a file stand: what is a part of one node stands in no other; and the passage of a file is that of its number.
use Rattle.std.proofs.Common.{◌≡◌, ◌⊎◌, inl, inr, ℕ, zero, suc, ◌+◌, ◌<◌, ◌==◌, Bool, true, false, if◌then◌else◌, List, [], ◌∷◌, ◌++◌, length, Option, Some, None, slice_get, refl, sym, ap, ◌∙◌, subst, arith}
use Rattle.std.specs.List.{Contains}
use Rattle.std.specs.Option.{option_map_or}
use Rattle.std.proofs.lemmas.Bool.Decides.{nat_tests}
use Rattle.std.proofs.lemmas.Option.{same_Some, slice_get_within}
use Rattle.const_tree.proofs.ListLemmas.{gather_cases}
use Rattle.go_tree.specs.declared.tree.FileTree.{FileTree}
use Rattle.go_tree.specs.declared.tree.Node.{Node}
use Rattle.package_objects.specs.Declares.{gather, items, listed, part, is_list}
use Rattle.node_values.specs.Trees.{IsPart, IsTree}
use Rattle.unit_read.specs.declared.place.Place.{Place}
use Rattle.unit_read.specs.declared.place.Standing.{Standing}
use Rattle.unit_read.specs.Passages.{file_passage, nth_file, file_copies, passages}
use Rattle.unit_read.specs.Places.{stands, standing, nth_item, nth_part, standing_in, standing_at, all_standing, first_for, place_of}
use Rattle.action_graph.proofs.StayFaces.{contains_at}

-- ---- lists in turn

left_at : {X : Type 0} (xs ys : List X) (i : ℕ) (x : X) → slice_get xs i ≡ Some x → slice_get (xs ++ ys) i ≡ Some x
left_at [] ys i x h = absurd cc
left_at (y ∷ xs) ys zero x h = h
left_at (y ∷ xs) ys (suc i) x h = left_at xs ys i x h

right_at : {X : Type 0} (xs ys : List X) (n : ℕ) → length xs ≡ n → slice_get (xs ++ ys) n ≡ slice_get ys 0
right_at [] ys zero h = refl
right_at [] ys (suc n) h = absurd (omega (arith, h))
right_at (x ∷ xs) ys zero h = absurd (omega (arith, h))
right_at (x ∷ xs) ys (suc n) h = right_at xs ys n (omega (arith, h))

added : {X : Type 0} (xs ys : List X) → length (xs ++ ys) ≡ length xs + length ys
added [] ys = omega arith
added (x ∷ xs) ys = let rest = added xs ys in omega (arith, rest)

-- where each number gives one item, the items are as many as the numbers
ones_size : {X : Type 0} (g : ℕ → List X) (n : ℕ) → ((k : ℕ) → k < n → length (g k) ≡ 1) → length (gather g n) ≡ n
ones_size g zero one = refl
ones_size g (suc n) one =
    let sum = added (gather g n) (g n) in
    let last = one n (omega arith) in
    let rest = ones_size g n (λ k low. one k (omega (arith, low))) in
    omega (arith, sum, last, rest)

-- and each stands at its number
ones_at : {X : Type 0} (g : ℕ → List X) (n f : ℕ) (x : X) → ((k : ℕ) → k < n → length (g k) ≡ 1) → f < n → slice_get (g f) 0 ≡ Some x → slice_get (gather g n) f ≡ Some x
ones_at g zero f x one low h = absurd (omega (arith, low))
ones_at {X} g (suc n) f x one low h = elim (last_or_less f n low) [
  | inl same ↦ right_at (gather g n) (g n) f (ones_size g n (λ k low. one k (omega (arith, low))) ∙ sym same) ∙ subst (λ (m : ℕ). slice_get (g m) 0 ≡ Some x) same h
  | inr less ↦ left_at (gather g n) (g n) f x (ones_at g n f x (λ k low. one k (omega (arith, low))) less h)
] where
  last_or_less : (i n : ℕ) → i < suc n → (i ≡ n) ⊎ (i < n)
  last_or_less i n low = grind arith

file_one : (trees : List FileTree) (k : ℕ) → k < length trees → length (nth_file trees k) ≡ 1
file_one [] k low = absurd (omega (arith, low))
file_one (t ∷ trees) zero low = refl
file_one (t ∷ trees) (suc k) low = by (slice_get trees k) refl where
  by : (o : Option FileTree) → slice_get trees k ≡ o → length (option_map_or (λ (tree : FileTree). file_passage (suc k) tree ∷ []) o []) ≡ 1
  by (Some tree) at = refl
  by None none = absurd (past trees k none (omega (arith, low))) where
    past : (ts : List FileTree) (k : ℕ) → slice_get ts k ≡ None → k < length ts → ⊥
    past [] k none low = omega (arith, low)
    past (t ∷ ts) zero none low = cc
    past (t ∷ ts) (suc k) none low = past ts k none (omega (arith, low))

-- the passage of the number of a file is the file's
pub passage_first : (trees : List FileTree) (f : ℕ) (tree : FileTree) → slice_get trees f ≡ Some tree → slice_get (passages trees) f ≡ Some (file_passage f tree)
passage_first trees f tree at =
    left_at (gather (nth_file trees) (length trees)) (gather (file_copies trees) (length trees)) f (file_passage f tree)
    (ones_at (nth_file trees) (length trees) f (file_passage f tree) (file_one trees) (slice_get_within trees f tree at)
    (ap (λ (o : Option FileTree). slice_get (option_map_or (λ (t : FileTree). file_passage f t ∷ []) o []) 0) at))

-- ---- what stands in a node

eq_true : (a b : ℕ) → (a == b) ≡ true → a ≡ b
eq_true a b h = grind (arith, nat_tests)

-- what is found for a node stands in the list
found_for : (n : ℕ) (list : List Standing) (p : Place) → first_for n list ≡ Some p → (i : ℕ) × (s : Standing) × (slice_get list i ≡ Some s) × (s.node ≡ n) × (s.place ≡ p)
found_for n [] p h = absurd cc
found_for n (s ∷ list) p h = by (s.node == n) refl (found_for n list p) h where
  by : (b : Bool) → (s.node == n) ≡ b → (first_for n list ≡ Some p → (i : ℕ) × (x : Standing) × (slice_get list i ≡ Some x) × (x.node ≡ n) × (x.place ≡ p))
      → (if b then Some s.place else first_for n list) ≡ Some p → (i : ℕ) × (x : Standing) × (slice_get (s ∷ list) i ≡ Some x) × (x.node ≡ n) × (x.place ≡ p)
  by true same rest e = (0, s, refl, eq_true s.node n same, same_Some s.place p e)
  by false other rest e = let r = rest e in (suc r.0, r.1, r.2, r.3, r.4)

module _ (nodes : List Node) where
  -- it is a part of the node around it and no list, or of a list
  abbrev StandsIn : ℕ → ℕ → Type 0
  StandsIn q n = (IsPart nodes q n × ((y : Node) × (slice_get nodes n ≡ Some y) × (is_list y.kind ≡ false))) ⊎ ((l : ℕ) × (list : Node) × (slice_get nodes l ≡ Some list) × (is_list list.kind ≡ true) × IsPart nodes l n)

  listed_within : (q l n i : ℕ) (around : Node) (o : Option Node) → slice_get nodes q ≡ Some around → Contains around.parts l → slice_get nodes l ≡ o → slice_get (option_map_or (listed l) o []) i ≡ Some n → StandsIn q n
  listed_within q l n i around None at has none h = absurd cc
  listed_within q l n i around (Some list) at has here h = by (is_list list.kind) refl h where
    lone : (i : ℕ) → slice_get (l ∷ []) i ≡ Some n → l ≡ n
    lone zero e = same_Some l n e
    lone (suc i) e = absurd cc

    by : (b : Bool) → is_list list.kind ≡ b → slice_get (if b then list.parts else l ∷ []) i ≡ Some n → StandsIn q n
    by true is e = inr (l, list, here, is, (list, here, contains_at list.parts i n e))
    by false is e =
        let same : l ≡ n = lone i e in
        inl ((around, at, subst (λ (m : ℕ). Contains around.parts m) same has), (list, ap (slice_get nodes) (sym same) ∙ here, is))

  item_within : (q slot i n : ℕ) (around : Node) (o : Option ℕ) → slice_get nodes q ≡ Some around → part around slot ≡ o → slice_get (items nodes o) i ≡ Some n → StandsIn q n
  item_within q slot i n around None at none h = absurd cc
  item_within q slot i n around (Some l) at is h = listed_within q l n i around (slice_get nodes l) at (contains_at around.parts slot l is) refl h

  standing_is : (q slot index : ℕ) (o : Option ℕ) (i : ℕ) (s : Standing) → slice_get (standing q slot index o) i ≡ Some s → o ≡ Some s.node
  standing_is q slot index None i s h = absurd cc
  standing_is q slot index (Some n) zero s h = ap (λ (x : Standing). Some x.node) (same_Some (stands q slot index n) s h)
  standing_is q slot index (Some n) (suc i) s h = absurd cc

  stands_within : (q i : ℕ) (s : Standing) (o : Option Node) → slice_get nodes q ≡ o → slice_get (option_map_or (standing_in nodes q) o []) i ≡ Some s → StandsIn q s.node
  stands_within q i s None none h = absurd cc
  stands_within q i s (Some around) at h = by (is_list around.kind) h where
    by : (b : Bool) → slice_get (if b then [] else gather (nth_part nodes q around) (length around.parts)) i ≡ Some s → StandsIn q s.node
    by true e = absurd cc
    by false e =
        let slot = gather_cases (nth_part nodes q around) (length around.parts) i s e in
        let index = gather_cases (nth_item nodes q slot.0 (part around slot.0)) (length (items nodes (part around slot.0))) slot.1 s slot.3 in
        let is = standing_is q slot.0 index.0 (slice_get (items nodes (part around slot.0)) index.0) index.1 s index.3 in
        item_within q slot.0 index.0 s.node around (part around slot.0) at refl is

  -- a list that is a part of another node than a list stands nowhere
  pub list_nowhere : IsTree nodes → (n m : ℕ) (node under : Node) → slice_get nodes n ≡ Some node → is_list node.kind ≡ false → Contains node.parts m → slice_get nodes m ≡ Some under → is_list under.kind ≡ true → place_of nodes m ≡ None
  list_nowhere tree n m node under at plain has there list = by (place_of nodes m) refl where
    never : (q : ℕ) → StandsIn q m → ⊥
    never q (inl (direct, (y, here, other))) =
        let one : y ≡ under = same_Some y under (sym here ∙ there) in
        let kind : is_list under.kind ≡ false = ap (λ (x : Node). is_list x.kind) (sym one) ∙ other in cc
    never q (inr (l, y, here, is, through)) =
        let same : l ≡ n = tree.one l n m through (node, at, has) in
        let one : y ≡ node = same_Some y node (sym here ∙ (ap (slice_get nodes) same ∙ at)) in
        let kind : is_list node.kind ≡ true = ap (λ (x : Node). is_list x.kind) (sym one) ∙ is in cc

    by : (o : Option Place) → place_of nodes m ≡ o → o ≡ None
    by None none = refl
    by (Some p) h =
        let found = found_for m (all_standing nodes) p h in
        let file = gather_cases (standing_at nodes) (length nodes) found.0 found.1 found.2 in
        absurd (never file.0 (subst (λ (k : ℕ). StandsIn file.0 k) found.3 (stands_within file.0 file.1 found.1 (slice_get nodes file.0) refl file.3)))
