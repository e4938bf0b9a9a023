-- Nodes of trees in one list: each is a part of one other at most, which comes after it.
use Rattle.std.proofs.Common.{◌≡◌, ℕ, zero, suc, ◌<◌, ◌+◌, ◌≤◌, ◌⊎◌, List, [], ◌∷◌, ◌++◌, length, slice_get, Some, refl, sym, ◌∙◌, subst, inl, inr, arith}
use Rattle.std.specs.List.{Contains}
use Rattle.go_tree.specs.declared.tree.Node.{Node}
use Rattle.go_tree.specs.declared.tree.FileTree.{FileTree}
use Rattle.go_tree.specs.declared.tree.NodeKind.{NodeKind}
use Rattle.go_tree.specs.Arena.{size, flat, roots, node_of}
use Rattle.go_tree.specs.Forest.{Forest, Empty, Grow}
use Rattle.go_tree.specs.Pieces.{Spelled}
use Rattle.node_values.proofs.StandLemmas.{size_flat}
use Rattle.node_values.specs.Trees.{IsTree}
use Rattle.gv_base.proofs.Lists.{nothing_there, same_some}

-- the node at a place has n as a part
abbrev pub HasPart : List Node → ℕ → ℕ → Type 0
HasPart xs i n = (x : Node) × (slice_get xs i ≡ Some x) × Contains x.parts n

none_in : (n : ℕ) → Contains [] n → ⊥
none_in n (i, h, e) = absurd (omega arith)

head_or_tail : (y : ℕ) (xs : List ℕ) (n : ℕ) → Contains (y ∷ xs) n → (y ≡ n) ⊎ Contains xs n
head_or_tail y xs n (zero, h, e) = inl e
head_or_tail y xs n (suc i, h, e) = inr (i, omega arith, e)

-- where a root of trees numbered from m lies
root_range : (m : ℕ) (f : Forest) (n : ℕ) → Contains (roots m f) n → (m ≤ n) × (n < m + size f)
root_range m Empty n h = absurd (none_in n h)
root_range m (Grow k a b ps f) n h = elim (head_or_tail (m + size ps) (roots (m + suc (size ps)) f) n h) [
  | inl same ↦ (omega arith, omega arith)
  | inr rest ↦ (let r = root_range (m + suc (size ps)) f n rest in (let x = r.0 in omega arith, let x = r.1 in omega arith))
]

-- a place in the nodes of the first tree's parts, that of the tree's top, or one in the rest
pub data At (m : ℕ) (k : NodeKind) (a b : ℕ) (ps f : Forest) (i n : ℕ) : Type 0 where
  inner : i < size ps → HasPart (flat m ps) i n → At m k a b ps f i n
  top : i ≡ size ps → Contains (roots m ps) n → At m k a b ps f i n
  later : (j : ℕ) → i ≡ suc (size ps) + j → HasPart (flat (m + suc (size ps)) f) j n → At m k a b ps f i n

pub data Split (xs ys : List Node) (y : Node) (i : ℕ) (x : Node) : Type 0 where
  left : i < length xs → slice_get xs i ≡ Some x → Split xs ys y i x
  here : i ≡ length xs → y ≡ x → Split xs ys y i x
  right : (j : ℕ) → i ≡ suc (length xs) + j → slice_get ys j ≡ Some x → Split xs ys y i x

pub split : (xs ys : List Node) (y : Node) (i : ℕ) (x : Node) → slice_get (xs ++ (y ∷ ys)) i ≡ Some x → Split xs ys y i x
split [] ys y zero x e = here refl (same_some (Some y) y x refl e)
split [] ys y (suc i) x e = right i (omega arith) e
split (z ∷ xs) ys y zero x e = left (omega arith) e
split (z ∷ xs) ys y (suc i) x e = elim (split xs ys y i x e) [
  | left low it ↦ left (omega arith) it
  | here same it ↦ here (omega arith) it
  | right j is it ↦ right j (omega arith) it
]

pub part_at : (m : ℕ) (k : NodeKind) (a b : ℕ) (ps f : Forest) (i n : ℕ) → HasPart (flat m (Grow k a b ps f)) i n → At m k a b ps f i n
part_at m k a b ps f i n (x, there, has) =
    let s = size_flat m ps in
    elim (split (flat m ps) (flat (m + suc (size ps)) f) (node_of k a b (roots m ps)) i x there) [
      | left low it ↦ inner (omega arith) (x, it, has)
      | here same it ↦ top (omega arith) (subst (λ (y : Node). Contains y.parts n) (sym it) has)
      | right j is it ↦ later j (omega arith) (x, it, has)
    ]

-- a part lies in front of what it is a part of, and is no root
part_range : (m : ℕ) (f : Forest) (i n : ℕ) → HasPart (flat m f) i n → (m ≤ n) × (n < m + i) × (Contains (roots m f) n → ⊥)
part_range m Empty i n (x, there, has) = absurd (nothing_there x there)
part_range m (Grow k a b ps f) i n h = elim (part_at m k a b ps f i n h) [
  | inner low it ↦ (let r = part_range m ps i n it in
      let x = r.0 in let y = r.1 in (
        x,
        y,
        λ c. elim (head_or_tail (m + size ps) (roots (m + suc (size ps)) f) n c) [
          | inl same ↦ absurd (omega arith)
          | inr rest ↦ (let z = root_range (m + suc (size ps)) f n rest in let w = z.0 in absurd (omega arith))
        ],
      ))
  | top same it ↦ (let r = root_range m ps n it in
      let x = r.0 in let y = r.1 in (
        x,
        omega arith,
        λ c. elim (head_or_tail (m + size ps) (roots (m + suc (size ps)) f) n c) [
          | inl is ↦ absurd (omega arith)
          | inr rest ↦ (let z = root_range (m + suc (size ps)) f n rest in let w = z.0 in absurd (omega arith))
        ],
      ))
  | later j is it ↦ (let r = part_range (m + suc (size ps)) f j n it in
      let x = r.0 in let y = r.1 in (
        omega arith,
        omega arith,
        λ c. elim (head_or_tail (m + size ps) (roots (m + suc (size ps)) f) n c) [
          | inl same ↦ absurd (omega arith)
          | inr rest ↦ r.2 rest
        ],
      ))
]

-- two places where n is a part are one, if they are within the first tree's parts and within the rest
one_of : (m : ℕ) (k : NodeKind) (a b : ℕ) (ps f : Forest) (i j n : ℕ) → ((i2 j2 : ℕ) → HasPart (flat m ps) i2 n → HasPart (flat m ps) j2 n → i2 ≡ j2)
    → ((i2 j2 : ℕ) → HasPart (flat (m + suc (size ps)) f) i2 n → HasPart (flat (m + suc (size ps)) f) j2 n → i2 ≡ j2) → At m k a b ps f i n → At m k a b ps f j n → i ≡ j
one_of m k a b ps f i j n one_in one_behind g h = both g h where
  apart : (j2 : ℕ) → n < m + suc (size ps) → HasPart (flat (m + suc (size ps)) f) j2 n → ⊥
  apart j2 low it = let r = part_range (m + suc (size ps)) f j2 n it in let x = r.0 in absurd (omega arith)

  below : (i2 : ℕ) → i2 < size ps → HasPart (flat m ps) i2 n → n < m + suc (size ps)
  below i2 low it = let r = part_range m ps i2 n it in let y = r.1 in omega arith

  below_top : Contains (roots m ps) n → n < m + suc (size ps)
  below_top it = let r = root_range m ps n it in let y = r.1 in omega arith

  both : At m k a b ps f i n → At m k a b ps f j n → i ≡ j
  both (inner low it) (inner low2 it2) = one_in i j it it2
  both (inner low it) (top is it2) = absurd (let r = part_range m ps i n it in r.2 it2)
  both (inner low it) (later j2 is it2) = absurd (apart j2 (below i low it) it2)
  both (top is it) (inner low2 it2) = absurd (let r = part_range m ps j n it2 in r.2 it)
  both (top is it) (top is2 it2) = is ∙ sym is2
  both (top is it) (later j2 is2 it2) = absurd (apart j2 (below_top it) it2)
  both (later i2 is it) (inner low2 it2) = absurd (apart i2 (below j low2 it2) it)
  both (later i2 is it) (top is2 it2) = absurd (apart i2 (below_top it2) it)
  both (later i2 is it) (later j2 is2 it2) = let e = one_behind i2 j2 it it2 in omega arith

-- a node of trees is a part of one of them at most
one_place : (m : ℕ) (f : Forest) (i j n : ℕ) → HasPart (flat m f) i n → HasPart (flat m f) j n → i ≡ j
one_place m Empty i j n (x, there, has) h = absurd (nothing_there x there)
one_place m (Grow k a b ps f) i j n g h =
    one_of m k a b ps f i j n (λ i2 j2 x y. one_place m ps i2 j2 n x y) (λ i2 j2 x y. one_place (m + suc (size ps)) f i2 j2 n x y) (part_at m k a b ps f i n g) (part_at m k a b ps f j n h)

pub tree_flat : (f : Forest) → IsTree (flat 0 f)
tree_flat f = record {
  one = λ p q n a b. one_place 0 f p q n a b;
  after = λ p n a. let r = part_range 0 f p n a in let y = r.1 in omega arith;
}

-- the nodes of a spelled file are those of trees
pub spelled_tree : (tree : FileTree) (source : List ℕ) → Spelled tree.tokens source tree → IsTree tree.nodes
spelled_tree tree source is = subst (λ (t : FileTree). IsTree t.nodes) is.arena (tree_flat is.forest)
