-- The nodes of trees lie side by side: a node comes directly after its parts.
use Rattle.std.proofs.Common.{◌≡◌, ℕ, suc, ◌<◌, ◌+◌, ◌≤◌, List, [], ◌∷◌, take, length, get_or, slice_get, Some, refl, sym, ap, ◌∙◌, subst, arith}
use Rattle.std.proofs.lemmas.List.{get_or-take, length-take-le}
use Rattle.std.proofs.lemmas.Option.{slice_get_within}
use Rattle.go_tree.specs.declared.tree.Node.{Node}
use Rattle.go_tree.specs.declared.tree.FileTree.{FileTree}
use Rattle.go_tree.specs.Arena.{size, flat, roots, node_of}
use Rattle.go_tree.specs.Forest.{Forest, Empty, Grow}
use Rattle.go_tree.specs.Pieces.{Spelled}
use Rattle.node_values.specs.Ranges.{start_from, start_of, starts, Tile, IsTiled}
use Rattle.gv_base.proofs.Lists.{nothing_there}
use Rattle.node_values.proofs.FillLemmas.{value_at, values_length}
use Rattle.node_values.proofs.StandLemmas.{StandsAt, stands_left, stands_right, stands_head, stands_all, size_flat}
use Rattle.node_values.proofs.TreeLemmas.{split, left, here, right}

-- where a tree starts, by what its parts begin at
start_by : (found parts : List ℕ) (from top : ℕ) → top ≤ length found → Tile found parts from top → start_from (take top found) parts ≡ from
start_by found [] from top low same = length-take-le top found low ∙ sym same
start_by found (x ∷ xs) from top low (same, before, more) = get_or-take top found x 0 before ∙ same

pub start_is : (nodes : List Node) (top from : ℕ) (node : Node) → slice_get nodes top ≡ Some node → Tile (starts nodes) node.parts from top → get_or (starts nodes) top 0 ≡ from
start_is nodes top from node there tiled =
    let within : top < length nodes = slice_get_within nodes top node there in
    let size : length (starts nodes) ≡ length nodes = values_length start_of nodes in
    value_at start_of nodes top node 0 there ∙ start_by (starts nodes) node.parts from top (omega arith) tiled

-- what stands behind a node
stands_tail : (nodes : List Node) (m s : ℕ) (node : Node) (xs : List Node) → StandsAt nodes (m + s) (node ∷ xs) → StandsAt nodes (m + suc s) xs
stands_tail nodes m s node xs h i x e = ap (λ n. slice_get nodes n) (shift m s i) ∙ h (suc i) x e where
  shift : (m s i : ℕ) → m + suc s + i ≡ m + s + suc i
  shift m s i = omega arith

-- the trees of a forest lie side by side
roots_tile : (nodes : List Node) (m : ℕ) (f : Forest) → StandsAt nodes m (flat m f) → Tile (starts nodes) (roots m f) m (m + size f)
roots_tile nodes m Empty stands = omega arith
roots_tile nodes m (Grow k a b ps f) stands =
    let node = node_of k a b (roots m ps) in
    let is : m + size ps ≡ m + length (flat m ps) = ap (λ n. m + n) (sym (size_flat m ps)) in
    let tail = stands_right nodes m (m + size ps) (flat m ps) (node ∷ flat (m + suc (size ps)) f) is stands in
    let there = stands_head nodes (m + size ps) node (flat (m + suc (size ps)) f) tail in
    let first = roots_tile nodes m ps (stands_left nodes m (flat m ps) (node ∷ flat (m + suc (size ps)) f) stands) in
    let rest = roots_tile nodes (m + suc (size ps)) f (stands_tail nodes m (size ps) node (flat (m + suc (size ps)) f) tail) in (
      start_is nodes (m + size ps) m node there first,
      omega arith,
      moved (starts nodes) (roots (m + suc (size ps)) f) (m + suc (size ps)) (suc (m + size ps)) (m + suc (size ps) + size f) (m + (size ps + suc (size f))) (omega arith) (omega arith) rest,
    ) where
      moved : (found parts : List ℕ) (a b c d : ℕ) → a ≡ b → c ≡ d → Tile found parts a c → Tile found parts b d
      moved found parts a b c d e g t = subst (λ n. Tile found parts b n) g (subst (λ n. Tile found parts n c) e t)

-- the parts of a node lie side by side up to n
abbrev TiledAt : List Node → Node → ℕ → Type 0
TiledAt nodes x n = Tile (starts nodes) x.parts (get_or (starts nodes) n 0) n

top_tiled : (nodes : List Node) (top from : ℕ) (node : Node) → slice_get nodes top ≡ Some node → Tile (starts nodes) node.parts from top → TiledAt nodes node top
top_tiled nodes top from node there tiled = subst (λ n. Tile (starts nodes) node.parts n top) (sym (start_is nodes top from node there tiled)) tiled

-- so do the parts of each of their nodes
node_tiled : (nodes : List Node) (m : ℕ) (f : Forest) → StandsAt nodes m (flat m f) → (i : ℕ) (x : Node) → slice_get (flat m f) i ≡ Some x → TiledAt nodes x (m + i)
node_tiled nodes m Empty stands i x e = absurd (nothing_there x e)
node_tiled nodes m (Grow k a b ps f) stands i x e =
    let node = node_of k a b (roots m ps) in
    let own : length (flat m ps) ≡ size ps = size_flat m ps in
    let is : m + size ps ≡ m + length (flat m ps) = ap (λ n. m + n) (sym own) in
    let before = stands_left nodes m (flat m ps) (node ∷ flat (m + suc (size ps)) f) stands in
    let tail = stands_right nodes m (m + size ps) (flat m ps) (node ∷ flat (m + suc (size ps)) f) is stands in
    elim (split (flat m ps) (flat (m + suc (size ps)) f) node i x e) [
      | left low it ↦ node_tiled nodes m ps before i x it
      | here same it ↦ subst (λ (y : Node). TiledAt nodes y (m + i)) it
          (subst (λ n. TiledAt nodes node n) (summed m (size ps) i (length (flat m ps)) own same)
          (top_tiled nodes (m + size ps) m node (stands_head nodes (m + size ps) node (flat (m + suc (size ps)) f) tail) (roots_tile nodes m ps before)))
      | right j there it ↦ subst (λ n. TiledAt nodes x n) (behind m (size ps) i j (length (flat m ps)) own there)
          (node_tiled nodes (m + suc (size ps)) f (stands_tail nodes m (size ps) node (flat (m + suc (size ps)) f) tail) j x it)
    ] where
      summed : (m s i l : ℕ) → l ≡ s → i ≡ l → m + s ≡ m + i
      summed m s i l e g = omega arith

      behind : (m s i j l : ℕ) → l ≡ s → i ≡ suc l + j → m + suc s + j ≡ m + i
      behind m s i j l e g = omega arith

pub tiled_flat : (f : Forest) → IsTiled (flat 0 f)
tiled_flat f p node there = subst (λ n. Tile (starts (flat 0 f)) node.parts (get_or (starts (flat 0 f)) n 0) n) (front p) (node_tiled (flat 0 f) 0 f (stands_all (flat 0 f)) p node there) where
  front : (p : ℕ) → 0 + p ≡ p
  front p = omega arith

-- the nodes of a spelled file lie side by side
pub spelled_tiled : (tree : FileTree) (source : List ℕ) → Spelled tree.tokens source tree → IsTiled tree.nodes
spelled_tiled tree source is = subst (λ (t : FileTree). IsTiled t.nodes) is.arena (tiled_flat is.forest)
