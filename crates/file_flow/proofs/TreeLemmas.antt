-- A spelled file's nodes: each is a part of one node at most, at one place, and there are few.
use Rattle.std.proofs.Common.{◌≡◌, ◌⊎◌, inl, inr, ◌<◌, ◌≤◌, ◌+◌, ◌^◌, ℕ, ◌-◌, zero, suc, List, [], ◌∷◌, ◌++◌, length, get_or, Some, None, refl, sym, ap, ◌∙◌, subst, arith}
use Rattle.std.specs.Prelude.{slice_get}
use Rattle.std.specs.List.{Contains}
use Rattle.std.proofs.lemmas.Option.{slice_get_within, slice_get-get_or}
use Rattle.go_tree.specs.declared.tree.FileTree.{FileTree}
use Rattle.go_tree.specs.declared.tree.Node.{Node}
use Rattle.go_tree.specs.declared.tree.NodeKind.{NodeKind}
use Rattle.go_tree.specs.Arena.{size, flat, roots, node_of, arena_of}
use Rattle.go_tree.specs.Forest.{Forest, Empty, Grow}
use Rattle.go_tree.specs.Pieces.{Spelled}
use Rattle.file_uses.proofs.ArenaLemmas.{size_flat}
use Rattle.flow.specs.Around.{IsTree}
use Rattle.label_uses.specs.Parents.{IsTree as IsPlainTree}
use Rattle.label_uses.proofs.TreeLemmas.{spelled_tree}

pub either : {A B C : Type 0} → A ⊎ B → (A → C) → (B → C) → C
either (inl a) f g = f a
either (inr b) f g = g b

pub same_some : {A : Type 0} {x y : A} → Some x ≡ Some y → x ≡ y
same_some e = cc

-- what was read at a place is there
pub read_at : {A : Type 0} (xs ys : List A) (i : ℕ) (x d : A) → ys ≡ xs → i < length ys → x ≡ get_or ys i d → slice_get xs i ≡ Some x
read_at xs ys i x d same lt is = subst (λ l. slice_get l i ≡ Some x) same (slice_get-get_or ys i d lt ∙ ap Some (sym is))

there_in : (xs : List ℕ) (i x : ℕ) → slice_get xs i ≡ Some x → Contains xs x
there_in [] i x e = absurd (let low = slice_get_within [] i x e in omega (arith, low))
there_in (y ∷ ys) zero x e = (0, omega arith, same_some e)
there_in (y ∷ ys) (suc i) x e = let c = there_in ys i x e in (suc c.0, (let low = c.1 in omega arith), c.2)

-- numbers of top nodes
record OfRoots (parts : List ℕ) : Type 0 where
  m : ℕ
  trees : Forest
  is : parts ≡ roots m trees

get_cases : (xs ys : List Node) (i : ℕ) (x : Node) → slice_get (xs ++ ys) i ≡ Some x → (slice_get xs i ≡ Some x) ⊎ ((j : ℕ) × (slice_get ys j ≡ Some x))
get_cases [] ys i x e = inr (i, e)
get_cases (z ∷ xs) ys zero x e = inl e
get_cases (z ∷ xs) ys (suc i) x e = get_cases xs ys i x e

parts_are : (m : ℕ) (f : Forest) (i : ℕ) (x : Node) → slice_get (flat m f) i ≡ Some x → OfRoots x.parts
parts_are m Empty i x e = absurd (let low = slice_get_within [] i x e in omega (arith, low))
parts_are m (Grow k a b ps f) i x e = either (get_cases (flat m ps) (node_of k a b (roots m ps) ∷ flat (m + suc (size ps)) f) i x e)
    (λ inner. parts_are m ps i x inner)
    (λ outer. by_place (λ j e. parts_are (m + suc (size ps)) f j x e) outer.0 outer.1)
  where
    by_place : ((j : ℕ) → slice_get (flat (m + suc (size ps)) f) j ≡ Some x → OfRoots x.parts) → (j : ℕ) → slice_get (node_of k a b (roots m ps) ∷ flat (m + suc (size ps)) f) j ≡ Some x → OfRoots x.parts
    by_place later zero at = record { m = m; trees = ps; is = ap (λ (n : Node). n.parts) (sym (same_some at)) }
    by_place later (suc j) at = later j at

roots_low : (m : ℕ) (f : Forest) (i n : ℕ) → slice_get (roots m f) i ≡ Some n → m ≤ n
roots_low m Empty i n e = absurd (let low = slice_get_within [] i n e in omega (arith, low))
roots_low m (Grow k a b ps f) zero n e = let same : m + size ps ≡ n = same_some e in omega arith
roots_low m (Grow k a b ps f) (suc i) n e = let low = roots_low (m + suc (size ps)) f i n e in omega arith

roots_one : (m : ℕ) (f : Forest) (i j n : ℕ) → slice_get (roots m f) i ≡ Some n → slice_get (roots m f) j ≡ Some n → i ≡ j
roots_one m Empty i j n e g = absurd (let low = slice_get_within [] i n e in omega (arith, low))
roots_one m (Grow k a b ps f) zero zero n e g = refl
roots_one m (Grow k a b ps f) zero (suc j) n e g =
    absurd (let same : m + size ps ≡ n = same_some e in let low = roots_low (m + suc (size ps)) f j n g in omega arith)
roots_one m (Grow k a b ps f) (suc i) zero n e g =
    absurd (let same : m + size ps ≡ n = same_some g in let low = roots_low (m + suc (size ps)) f i n e in omega arith)
roots_one m (Grow k a b ps f) (suc i) (suc j) n e g = ap suc (roots_one (m + suc (size ps)) f i j n e g)

-- a part stands at one place
parts_one : (parts : List ℕ) → OfRoots parts → (i j n : ℕ) → slice_get parts i ≡ Some n → slice_get parts j ≡ Some n → i ≡ j
parts_one parts r i j n e g = roots_one r.m r.trees i j n (subst (λ l. slice_get l i ≡ Some n) r.is e) (subst (λ l. slice_get l j ≡ Some n) r.is g)

pub whole_tree : (tree : FileTree) (source : List ℕ) → Spelled tree.tokens source tree → IsTree tree.nodes
whole_tree tree source is =
    let plain : IsPlainTree tree.nodes = spelled_tree tree source is in
    record {
      one = λ p q i j n a b.
          let same : p ≡ q = plain.one p q n (a.0, a.1, there_in a.0.parts i n a.2) (b.0, b.1, there_in b.0.parts j n b.2) in
          let nodes : a.0 ≡ b.0 = same_some (sym a.1 ∙ (ap (slice_get tree.nodes) same ∙ b.1)) in
          let here : slice_get (flat 0 is.forest) q ≡ Some b.0 = ap (λ (t : FileTree). slice_get t.nodes q) is.arena ∙ b.1 in
          (same, parts_one b.0.parts (parts_are 0 is.forest q b.0 here) i j n (subst (λ (x : Node). slice_get x.parts i ≡ Some n) nodes a.2) b.2);
      after = λ p i n a. plain.after p n (a.0, a.1, there_in a.0.parts i n a.2);
    }

-- the last top node is the last node
last_root : (m : ℕ) (k : NodeKind) (a b : ℕ) (ps f : Forest) (d : ℕ)
    → suc (get_or (roots m (Grow k a b ps f)) (length (roots (m + suc (size ps)) f)) d) ≡ m + size (Grow k a b ps f)
last_root m k a b ps Empty d = omega arith
last_root m k a b ps (Grow k2 a2 b2 ps2 f2) d = let e = last_root (m + suc (size ps)) k2 a2 b2 ps2 f2 d in omega arith

-- the nodes are as many as the number of the last top node, and one more
pub as_many : (f : Forest) (d : ℕ) → (length (flat 0 f) ≡ 0) ⊎ (length (flat 0 f) ≡ suc (get_or (roots 0 f) (length (roots 0 f) - 1) d))
as_many Empty d = inl refl
as_many (Grow k a b ps f) d =
    let whole : size (Grow k a b ps f) ≡ 0 + size (Grow k a b ps f) = omega arith in
    let less : length (roots (0 + suc (size ps)) f) ≡ suc (length (roots (0 + suc (size ps)) f)) - 1 = omega arith in
    inr (size_flat 0 (Grow k a b ps f) ∙ (whole ∙ (sym (last_root 0 k a b ps f d) ∙ ap (λ n. suc (get_or (roots 0 (Grow k a b ps f)) n d)) less)))

none_few : (f : Forest) → length (roots 0 f) ≡ 0 → length (flat 0 f) ≡ 0
none_few Empty e = refl
none_few (Grow k a b ps f) e = absurd (omega (arith, e))

-- without top nodes there are no nodes
pub empty_few : (tree : FileTree) (source : List ℕ) → Spelled tree.tokens source tree → length tree.tops ≡ 0 → length tree.nodes ≤ 2 ^ 32
empty_few tree source is none =
    let nodes : length tree.nodes ≡ length (flat 0 is.forest) = ap (λ (t : FileTree). length t.nodes) (sym is.arena) in
    let tops : length (roots 0 is.forest) ≡ 0 = ap (λ (t : FileTree). length t.tops) is.arena ∙ none in
    let zero_nodes = none_few is.forest tops in
    omega arith

-- the last top node's number bounds the nodes
pub last_few : (tree : FileTree) (source : List ℕ) (d : ℕ) → Spelled tree.tokens source tree → get_or tree.tops (length tree.tops - 1) d < 2 ^ 32 → length tree.nodes ≤ 2 ^ 32
last_few tree source d is low =
    let nodes : length tree.nodes ≡ length (flat 0 is.forest) = ap (λ (t : FileTree). length t.nodes) (sym is.arena) in
    let top : get_or (roots 0 is.forest) (length (roots 0 is.forest) - 1) d ≡ get_or tree.tops (length tree.tops - 1) d = ap (λ (t : FileTree). get_or t.tops (length t.tops - 1) d) is.arena in
    either (as_many is.forest d) (λ none. omega arith) (λ some. omega arith)
