-- Steps that keep the tree in order.
use Rattle.std.proofs.Common.{◌≡◌, ◌≢◌, ◌<◌, ◌≤◌, ◌+◌, ◌*◌, ◌-◌, ℕ, List, [], ◌∷◌, ◌++◌, length, set, replicate, refl, sym, ap, ◌∙◌, subst, inl, ⊎_elim, add-zero, arith}
use Rattle.std.proofs.lemmas.Bool.{cases_lt, cases_eq}
use Rattle.std.proofs.lemmas.List.{length-set, get_or-set_same, get_or-set_other, get_or_append_left, get_or_push, length_push, length-replicate, get_or-replicate}
use Rattle.fix_apply.specs.declared.slot.Slot.{Slot}
use Rattle.fix_apply.specs.declared.tree.Node.{Node}
use Rattle.fix_apply.specs.Trees.{slot_at, node_at, widest, Bounds, IsLeaf, IsOrdered, IsTree, IsFlat, SameLeaves, OthersStay}

pub Bounds-trans : (a b c : Node) → Bounds a b → Bounds b c → Bounds a c
Bounds-trans a b c x y = record {
  first_file = omega (arith, x.first_file, y.first_file);
  last_file = omega (arith, x.last_file, y.last_file);
  low = omega (arith, x.low, y.low);
  high = omega (arith, x.high, y.high);
  reach = omega (arith, x.reach, y.reach);
}

node_set_same : (nodes : List Node) (x : ℕ) (new : Node) → x < length nodes → node_at (set nodes x new) x ≡ new
node_set_same nodes x new below = get_or-set_same nodes x new _ below

node_set_other : (nodes : List Node) (x y : ℕ) (new : Node) → y ≢ x → node_at (set nodes x new) y ≡ node_at nodes y
node_set_other nodes x y new other = get_or-set_other nodes x y new _ other

-- an edge stays in order where its upper node, its lower node or none of them changes
edge : (nodes : List Node) (x z y : ℕ) (new : Node) → x < length nodes → y ≢ z → Bounds (node_at nodes z) (node_at nodes y) → (z ≡ x → Bounds new (node_at nodes y)) → Bounds (node_at nodes x) new → Bounds (node_at (set nodes x new) z) (node_at (set nodes x new) y)
edge nodes x z y new below apart old upper lower =
    ⊎_elim
    (λ (top : z ≡ x).
    let other : y ≢ x = omega arith in
    subst (λ (n : Node). Bounds n (node_at (set nodes x new) y)) (sym (ap (node_at (set nodes x new)) top ∙ node_set_same nodes x new below))
    (subst (Bounds new) (sym (node_set_other nodes x y new other)) (upper top)))
    (λ (free : z ≢ x).
    subst (λ (n : Node). Bounds n (node_at (set nodes x new) y)) (sym (node_set_other nodes x z new free))
    (⊎_elim
    (λ (bottom : y ≡ x).
    subst (Bounds (node_at nodes z)) (sym (ap (node_at (set nodes x new)) bottom ∙ node_set_same nodes x new below))
    (Bounds-trans (node_at nodes z) (node_at nodes x) new (subst (λ (n : ℕ). Bounds (node_at nodes z) (node_at nodes n)) bottom old) lower))
    (λ (other : y ≢ x). subst (Bounds (node_at nodes z)) (sym (node_set_other nodes x y new other)) old)
    (cases_eq y x)))
    (cases_eq z x)

pub set_ordered : (nodes : List Node) (x : ℕ) (new : Node) → IsOrdered nodes → x < length nodes → (2 * x < length nodes → Bounds new (node_at nodes (2 * x))) → (2 * x + 1 < length nodes → Bounds new (node_at nodes (2 * x + 1))) → Bounds (node_at nodes x) new → IsOrdered (set nodes x new)
set_ordered nodes x new ordered below left right lower = λ z some. (
  (λ within.
      let inside : 2 * z < length nodes = omega (arith, length-set nodes x new) in
      edge nodes x z (2 * z) new below (omega arith) ((ordered z some).0 inside) (λ top. subst (λ (n : ℕ). Bounds new (node_at nodes (2 * n))) (sym top) (left (omega arith))) lower),
  (λ within.
      let inside : 2 * z + 1 < length nodes = omega (arith, length-set nodes x new) in
      edge nodes x z (2 * z + 1) new below (omega arith) ((ordered z some).1 inside) (λ top. subst (λ (n : ℕ). Bounds new (node_at nodes (2 * n + 1))) (sym top) (right (omega arith))) lower),
)

-- a change above the leaves
pub keeps_tree : (slots : List Slot) (old new : List Node) → IsTree slots old → IsOrdered new → length new ≡ length old → SameLeaves slots old new → IsTree slots new
keeps_tree slots old new tree ordered size same = record {
  size = size ∙ tree.size;
  ordered = ordered;
  leaves = λ p below. subst (λ (n : Node). IsLeaf n (slot_at slots p)) (sym (same p below)) (tree.leaves p below);
}

-- a leaf is closed
pub closed_ordered : (slots : List Slot) (old : List Node) (p : ℕ) (leaf : Node) → IsTree slots old → p < length slots → leaf ≡ record (node_at old (length slots + p)) { reach = 0 } → IsOrdered (set old (length slots + p) leaf)
closed_ordered slots old p leaf tree below is =
    let here : length slots + p < length old = omega (arith, tree.size) in
    set_ordered old (length slots + p) leaf tree.ordered here
    (λ within. absurd (omega (arith, tree.size)))
    (λ within. absurd (omega (arith, tree.size)))
    (subst (Bounds (node_at old (length slots + p))) (sym is) (record { first_file = omega arith; last_file = omega arith; low = omega arith; high = omega arith; reach = omega arith }))

leaf_closed : (node leaf : Node) (slot : Slot) → IsLeaf node slot → leaf ≡ record node { reach = 0 } → IsLeaf leaf slot
leaf_closed node leaf slot had is = subst (λ (n : Node). IsLeaf n slot) (sym is) (record { first_file = had.first_file; last_file = had.last_file; low = had.low; high = had.high; reach = inl refl })

pub closed_tree : (slots : List Slot) (old : List Node) (p : ℕ) (leaf : Node) → IsTree slots old → p < length slots → leaf ≡ record (node_at old (length slots + p)) { reach = 0 } → IsTree slots (set old (length slots + p) leaf)
closed_tree slots old p leaf tree below is =
    let here : length slots + p < length old = omega (arith, tree.size) in
    record {
      size = length-set old (length slots + p) leaf ∙ tree.size;
      ordered = closed_ordered slots old p leaf tree below is;
      leaves = λ q within. ⊎_elim
          (λ (same : q ≡ p).
          subst (λ (n : Node). IsLeaf n (slot_at slots q)) (sym (ap (λ k. node_at (set old (length slots + p) leaf) (length slots + k)) same ∙ node_set_same old (length slots + p) leaf here))
          (subst (λ (k : ℕ). IsLeaf leaf (slot_at slots k)) (sym same) (leaf_closed (node_at old (length slots + p)) leaf (slot_at slots p) (tree.leaves p below) is)))
          (λ (other : q ≢ p).
          subst (λ (n : Node). IsLeaf n (slot_at slots q)) (sym (node_set_other old (length slots + p) (length slots + q) leaf (omega arith))) (tree.leaves q within))
          (cases_eq q p);
    }

pub closed_others : (slots : List Slot) (old : List Node) (p : ℕ) (leaf : Node) → OthersStay slots old (set old (length slots + p) leaf) p
closed_others slots old p leaf q below other = node_set_other old (length slots + p) (length slots + q) leaf (omega arith)

pub closed_reach : (slots : List Slot) (old : List Node) (p : ℕ) (leaf : Node) → IsTree slots old → p < length slots → leaf ≡ record (node_at old (length slots + p)) { reach = 0 } → (node_at (set old (length slots + p) leaf) (length slots + p)).reach ≡ 0
closed_reach slots old p leaf tree below is =
    let here : length slots + p < length old = omega (arith, tree.size) in
    ap (λ (n : Node). n.reach) (node_set_same old (length slots + p) leaf here ∙ is)

-- no leaf yet
pub flat_none : (slots : List Slot) (nodes : List Node) (half : ℕ) → nodes ≡ replicate half widest → IsFlat slots nodes half 0
flat_none slots nodes half is = record {
  size = ap length is ∙ length-replicate half widest ∙ sym (add-zero half);
  inner = λ x below. ap (λ l. node_at l x) is ∙ get_or-replicate half x widest _ below;
  leaves = λ p below. absurd (omega arith);
  open_leaves = λ p below. absurd (omega arith);
  within = λ p below. absurd (omega arith);
}

-- one more leaf
leaf_more : (nodes : List Node) (half count : ℕ) (leaf : Node) (P : Node → ℕ → Type 0) → length nodes ≡ half + count → ((p : ℕ) → p < count → P (node_at nodes (half + p)) p) → P leaf count → (p : ℕ) → p < count + 1 → P (node_at (nodes ++ leaf ∷ []) (half + p)) p
leaf_more nodes half count leaf P size had new p below = ⊎_elim
    (λ (early : p < count). subst (λ (n : Node). P n p) (sym (get_or_append_left nodes (leaf ∷ []) _ (half + p) (omega (arith, size)))) (had p early))
    (λ (late : count ≤ p).
    let same : p ≡ count = omega arith in
    let place : length nodes ≡ half + p = omega (arith, size) in
    subst (λ (n : Node). P n p) (sym (get_or_push nodes leaf _ (half + p) place)) (subst (λ (k : ℕ). P leaf k) (sym same) new))
    (cases_lt p count)

pub flat_more : (slots : List Slot) (nodes : List Node) (half count : ℕ) (leaf : Node) → IsFlat slots nodes half count → IsLeaf leaf (slot_at slots count) → 0 < leaf.reach → Bounds widest leaf → IsFlat slots (nodes ++ leaf ∷ []) half (count + 1)
flat_more slots nodes half count leaf flat is some within = record {
  size = length_push nodes leaf ∙ (omega (arith, flat.size));
  inner = λ x below. get_or_append_left nodes (leaf ∷ []) _ x (omega (arith, flat.size)) ∙ flat.inner x below;
  leaves = leaf_more nodes half count leaf (λ n p. IsLeaf n (slot_at slots p)) flat.size flat.leaves is;
  open_leaves = leaf_more nodes half count leaf (λ n p. 0 < n.reach) flat.size flat.open_leaves some;
  within = leaf_more nodes half count leaf (λ n p. Bounds widest n) flat.size flat.within within;
}

pub Bounds-refl : (a : Node) → Bounds a a
Bounds-refl a = record { first_file = omega arith; last_file = omega arith; low = omega arith; high = omega arith; reach = omega arith }

flat_edge : (slots : List Slot) (nodes : List Node) (half x y : ℕ) → IsFlat slots nodes half half → x < half → y < half + half → Bounds (node_at nodes x) (node_at nodes y)
flat_edge slots nodes half x y flat inner below =
    subst (λ (n : Node). Bounds n (node_at nodes y)) (sym (flat.inner x inner))
    (⊎_elim
    (λ (also : y < half). subst (Bounds widest) (sym (flat.inner y also)) (Bounds-refl widest))
    (λ (leaf : half ≤ y).
    let place : half + (y - half) ≡ y = omega arith in
    subst (λ (n : ℕ). Bounds widest (node_at nodes n)) place (flat.within (y - half) (omega arith)))
    (cases_lt y half))

pub flat_tree : (slots : List Slot) (nodes : List Node) (half : ℕ) → half ≡ length slots → IsFlat slots nodes half half → IsTree slots nodes
flat_tree slots nodes half is flat = record {
  size = flat.size ∙ (omega (arith, is));
  ordered = λ x some. (
    (λ within. flat_edge slots nodes half x (2 * x) flat (omega (arith, flat.size)) (omega (arith, flat.size))),
    (λ within. flat_edge slots nodes half x (2 * x + 1) flat (omega (arith, flat.size)) (omega (arith, flat.size))),
  );
  leaves = λ p below. subst (λ (h : ℕ). IsLeaf (node_at nodes (h + p)) (slot_at slots p)) is (flat.leaves p (omega (arith, is)));
}
