-- The nodes of trees show the trees.
use Rattle.std.proofs.Common.{◌≡◌, ℕ, zero, suc, ◌<◌, ◌+◌, ◌≤◌, ◌⊎◌, List, [], ◌∷◌, ◌++◌, length, slice_get, Some, refl, sym, ap, ◌∙◌, subst, inl, inr, arith, length-append}
use Rattle.std.specs.List.{All}
use Rattle.go_tree.specs.declared.token.Token.{Token}
use Rattle.go_tree.specs.declared.tree.Node.{Node}
use Rattle.go_tree.specs.declared.tree.FileTree.{FileTree}
use Rattle.go_tree.specs.declared.tree.NodeKind.{NodeKind}
use Rattle.go_tree.specs.Arena.{size, flat, roots, node_of, arena_of}
use Rattle.go_tree.specs.Forest.{Forest, Empty, Grow}
use Rattle.scopes.specs.Walk.{Shows, IsFormed}
use Rattle.gv_base.proofs.Lists.{get_left}

-- the list stands in the nodes from m on
abbrev StandsAt : List Node → ℕ → List Node → Type 0
StandsAt nodes m xs = (i : ℕ) (x : Node) → slice_get xs i ≡ Some x → slice_get nodes (m + i) ≡ Some x

get_right : (xs ys : List Node) (i : ℕ) → slice_get (xs ++ ys) (length xs + i) ≡ slice_get ys i
get_right [] ys i = ap (λ n. slice_get ys n) (same i) where
  same : (i : ℕ) → 0 + i ≡ i
  same i = omega arith
get_right (y ∷ xs) ys i = ap (λ n. slice_get (y ∷ (xs ++ ys)) n) (same (length xs) i) ∙ get_right xs ys i where
  same : (n i : ℕ) → suc n + i ≡ suc (n + i)
  same n i = omega arith

stands_left : (nodes : List Node) (m : ℕ) (xs ys : List Node) → StandsAt nodes m (xs ++ ys) → StandsAt nodes m xs
stands_left nodes m xs ys h i x e = h i x (get_left xs ys i x e)

stands_right : (nodes : List Node) (m n : ℕ) (xs ys : List Node) → n ≡ m + length xs → StandsAt nodes m (xs ++ ys) → StandsAt nodes n ys
stands_right nodes m n xs ys is h i x e =
    ap (λ k. slice_get nodes k) (assoc n m (length xs) i is) ∙ h (length xs + i) x (get_right xs ys i ∙ e) where
      assoc : (n m l i : ℕ) → n ≡ m + l → n + i ≡ m + (l + i)
      assoc n m l i e = omega arith

stands_head : (nodes : List Node) (m : ℕ) (x : Node) (xs : List Node) → StandsAt nodes m (x ∷ xs) → slice_get nodes m ≡ Some x
stands_head nodes m x xs h = ap (λ k. slice_get nodes k) (same m) ∙ h 0 x refl where
  same : (m : ℕ) → m ≡ m + 0
  same m = omega arith

stands_all : (nodes : List Node) → StandsAt nodes 0 nodes
stands_all nodes i x e = ap (λ k. slice_get nodes k) (same i) ∙ e where
  same : (i : ℕ) → 0 + i ≡ i
  same i = omega arith

pub size_flat : (m : ℕ) (f : Forest) → length (flat m f) ≡ size f
size_flat m Empty = refl
size_flat m (Grow k a b ps f) =
    length-append (flat m ps) (node_of k a b (roots m ps) ∷ flat (m + suc (size ps)) f) ∙ both (length (flat m ps)) (size ps) (length (flat (m + suc (size ps)) f)) (size f) (size_flat m ps) (size_flat (m + suc (size ps)) f) where
      both : (x y u v : ℕ) → x ≡ y → u ≡ v → x + suc u ≡ y + suc v
      both x y u v e f = omega arith

shows_flat : (nodes : List Node) (m : ℕ) (f : Forest) → StandsAt nodes m (flat m f) → Shows nodes m (roots m f) f
shows_flat nodes m Empty h = tt
shows_flat nodes m (Grow k a b ps f) h =
    let node = node_of k a b (roots m ps) in
    let here : m + size ps ≡ m + length (flat m ps) = ap (λ n. m + n) (sym (size_flat m ps)) in
    let tail = stands_right nodes m (m + size ps) (flat m ps) (node ∷ flat (m + suc (size ps)) f) here h in (
      node,
      stands_head nodes (m + size ps) node (flat (m + suc (size ps)) f) tail,
      refl,
      refl,
      shows_flat nodes m ps (stands_left nodes m (flat m ps) (node ∷ flat (m + suc (size ps)) f) h),
      shows_flat nodes (m + suc (size ps)) f (stands_right nodes (m + size ps) (m + suc (size ps)) (node ∷ []) (flat (m + suc (size ps)) f) (next m (size ps)) tail),
    ) where
      next : (m a : ℕ) → m + suc a ≡ (m + a) + 1
      next m a = omega arith

-- the nodes of a file's tree show its trees
pub shown : (tokens : List Token) (f : Forest) (tree : FileTree) → arena_of tokens f ≡ tree → Shows tree.nodes 0 tree.tops f
shown tokens f tree e = subst (λ (t : FileTree). Shows t.nodes 0 t.tops f) e (shows_flat (flat 0 f) 0 f (stands_all (flat 0 f)))

pub count : (tokens : List Token) (f : Forest) (tree : FileTree) → arena_of tokens f ≡ tree → length tree.nodes ≡ size f
count tokens f tree e = ap (λ (t : FileTree). length t.nodes) (sym e) ∙ size_flat 0 f

-- ---- parts come first

pub roots_low : (m hi : ℕ) (f : Forest) → m + size f ≤ hi → All (λ k. k < hi) (roots m f)
roots_low m hi Empty h i d low = absurd (omega arith)
roots_low m hi (Grow k a b ps f) h zero d low = omega arith
roots_low m hi (Grow k a b ps f) h (suc i) d low = roots_low (m + suc (size ps)) hi f (omega arith) i d (omega arith)

get_cases : (xs ys : List Node) (i : ℕ) (x : Node) → slice_get (xs ++ ys) i ≡ Some x → (slice_get xs i ≡ Some x) ⊎ ((j : ℕ) × (i ≡ length xs + j) × (slice_get ys j ≡ Some x))
get_cases [] ys i x e = inr (i, same i, e) where
  same : (i : ℕ) → i ≡ 0 + i
  same i = omega arith
get_cases (y ∷ xs) ys zero x e = inl e
get_cases (y ∷ xs) ys (suc i) x e = elim (get_cases xs ys i x e) [ inl left ↦ inl left | inr right ↦ inr (right.0, more (length xs) i right.0 right.1, right.2) ] where
  more : (n i j : ℕ) → i ≡ n + j → suc i ≡ suc n + j
  more n i j e = omega arith

same_node : (a b : Node) → Some a ≡ Some b → a ≡ b
same_node a b e = cc

formed_node : (m : ℕ) (k : NodeKind) (a b : ℕ) (ps f : Forest) (i j : ℕ) (x : Node) → ((i : ℕ) → slice_get (flat (m + suc (size ps)) f) i ≡ Some x → All (λ k. k < (m + suc (size ps)) + i) x.parts)
    → i ≡ length (flat m ps) + j → slice_get (node_of k a b (roots m ps) ∷ flat (m + suc (size ps)) f) j ≡ Some x → All (λ k. k < m + i) x.parts
formed_node m k a b ps f i zero x others at is =
    subst (λ (y : Node). All (λ k. k < m + i) y.parts) (same_node (node_of k a b (roots m ps)) x is)
    (roots_low m (m + i) ps (let s = size_flat m ps in omega arith))
formed_node m k a b ps f i (suc j) x others at is =
    subst (λ (y : ℕ). All (λ k. k < y) x.parts) (let s = size_flat m ps in omega arith) (others j is)

pub formed_flat : (m : ℕ) (f : Forest) (i : ℕ) (x : Node) → slice_get (flat m f) i ≡ Some x → All (λ k. k < m + i) x.parts
formed_flat m Empty i x e = absurd (cc)
formed_flat m (Grow k a b ps f) i x e = elim (get_cases (flat m ps) (node_of k a b (roots m ps) ∷ flat (m + suc (size ps)) f) i x e) [
  | inl left ↦ formed_flat m ps i x left
  | inr right ↦ formed_node m k a b ps f i right.0 x (λ j is. formed_flat (m + suc (size ps)) f j x is) right.1 right.2
]

-- the parts of a node of trees come before it
pub all_formed : (f : Forest) → IsFormed (flat 0 f)
all_formed f n node there = below n node (formed_flat 0 f n node there) where
  below : (n : ℕ) (node : Node) → All (λ k. k < 0 + n) node.parts → All (λ k. k < n) node.parts
  below n node h k d low = let r = h k d low in omega arith

pub all_shown : (f : Forest) → Shows (flat 0 f) 0 (roots 0 f) f
all_shown f = shows_flat (flat 0 f) 0 f (stands_all (flat 0 f))

pub formed : (tokens : List Token) (f : Forest) (tree : FileTree) → arena_of tokens f ≡ tree → IsFormed tree.nodes
formed tokens f tree e = subst (λ (t : FileTree). IsFormed t.nodes) e (all_formed f)
