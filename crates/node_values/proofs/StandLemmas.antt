-- Where the nodes of trees stand in a list.
use Rattle.std.proofs.Common.{◌≡◌, ℕ, suc, ◌+◌, List, [], ◌∷◌, ◌++◌, length, slice_get, Some, refl, ap, ◌∙◌, arith, length-append}
use Rattle.go_tree.specs.declared.tree.Node.{Node}
use Rattle.go_tree.specs.Arena.{size, flat, roots, node_of}
use Rattle.go_tree.specs.Forest.{Forest, Empty, Grow}
use Rattle.gv_base.proofs.Lists.{get_left}

-- the list stands in the nodes from m on
abbrev pub StandsAt : List Node → ℕ → List Node → Type 0
StandsAt nodes m xs = (i : ℕ) (x : Node) → slice_get xs i ≡ Some x → slice_get nodes (m + i) ≡ Some x

get_right : (xs ys : List Node) (i : ℕ) → slice_get (xs ++ ys) (length xs + i) ≡ slice_get ys i
get_right [] ys i = ap (λ n. slice_get ys n) (same i) where
  same : (i : ℕ) → 0 + i ≡ i
  same i = omega arith
get_right (y ∷ xs) ys i = ap (λ n. slice_get (y ∷ (xs ++ ys)) n) (same (length xs) i) ∙ get_right xs ys i where
  same : (n i : ℕ) → suc n + i ≡ suc (n + i)
  same n i = omega arith

pub stands_left : (nodes : List Node) (m : ℕ) (xs ys : List Node) → StandsAt nodes m (xs ++ ys) → StandsAt nodes m xs
stands_left nodes m xs ys h i x e = h i x (get_left xs ys i x e)

pub stands_right : (nodes : List Node) (m n : ℕ) (xs ys : List Node) → n ≡ m + length xs → StandsAt nodes m (xs ++ ys) → StandsAt nodes n ys
stands_right nodes m n xs ys is h i x e =
    ap (λ k. slice_get nodes k) (assoc n m (length xs) i is) ∙ h (length xs + i) x (get_right xs ys i ∙ e) where
      assoc : (n m l i : ℕ) → n ≡ m + l → n + i ≡ m + (l + i)
      assoc n m l i e = omega arith

pub stands_head : (nodes : List Node) (m : ℕ) (x : Node) (xs : List Node) → StandsAt nodes m (x ∷ xs) → slice_get nodes m ≡ Some x
stands_head nodes m x xs h = ap (λ k. slice_get nodes k) (same m) ∙ h 0 x refl where
  same : (m : ℕ) → m ≡ m + 0
  same m = omega arith

pub stands_all : (nodes : List Node) → StandsAt nodes 0 nodes
stands_all nodes i x e = ap (λ k. slice_get nodes k) (same i) ∙ e where
  same : (i : ℕ) → 0 + i ≡ i
  same i = omega arith

pub size_flat : (m : ℕ) (f : Forest) → length (flat m f) ≡ size f
size_flat m Empty = refl
size_flat m (Grow k a b ps f) =
    length-append (flat m ps) (node_of k a b (roots m ps) ∷ flat (m + suc (size ps)) f) ∙ both (length (flat m ps)) (size ps) (length (flat (m + suc (size ps)) f)) (size f) (size_flat m ps) (size_flat (m + suc (size ps)) f) where
      both : (x y u v : ℕ) → x ≡ y → u ≡ v → x + suc u ≡ y + suc v
      both x y u v e f = omega arith
