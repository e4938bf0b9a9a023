-- What a node holds is a range of numbers.
use Rattle.std.proofs.Common.{◌≡◌, ℕ, zero, suc, ◌<◌, ◌≤◌, ◌↔◌, List, [], ◌∷◌, length, get_or, slice_get, Some, refl, subst, inl, inr, arith}
use Rattle.std.specs.List.{Contains}
use Rattle.std.proofs.lemmas.Option.{slice_get_within, slice_get-get_or}
use Rattle.go_tree.specs.declared.tree.Node.{Node}
use Rattle.node_values.specs.Trees.{IsPart, IsTree, Holds, part, deep}
use Rattle.node_values.specs.Ranges.{starts, Tile, IsTiled, IsWithin}
use Rattle.node_values.proofs.HandLemmas.{below_or_not}
use Rattle.node_values.proofs.InnerLemmas.{holds_after}

abbrev start : List ℕ → ℕ → ℕ
start s n = get_or s n 0

first : (y : ℕ) (ys : List ℕ) → Contains (y ∷ ys) y
first y ys = (0, omega arith, refl)

later : (y : ℕ) (ys : List ℕ) (x : ℕ) → Contains ys x → Contains (y ∷ ys) x
later y ys x (k, low, e) = (suc k, omega arith, e)

there_is : (nodes : List Node) (i : ℕ) → i < length nodes → (x : Node) × (slice_get nodes i ≡ Some x)
there_is [] i h = absurd (omega arith)
there_is (y ∷ ys) i h = (get_or (y ∷ ys) i y, slice_get-get_or (y ∷ ys) i y h)

-- a tree starts at its top or before, if those of its parts do
first_low : (s : List ℕ) (parts : List ℕ) (here top : ℕ) → Tile s parts here top → ((x : ℕ) → x < top → start s x ≤ x) → here ≤ top
first_low s [] here top is low = omega arith
first_low s (x ∷ xs) here top (same, before, more) low = let l = low x before in omega arith

starts_low : (nodes : List Node) → IsTiled nodes → (fuel p : ℕ) → p < fuel → p < length nodes → start (starts nodes) p ≤ p
starts_low nodes tiled zero p few within = absurd (omega arith)
starts_low nodes tiled (suc fuel) p few within =
    let (node, there) = there_is nodes p within in
    first_low (starts nodes) node.parts (start (starts nodes) p) p (tiled p node there) (λ x less. starts_low nodes tiled fuel x (omega arith) (omega arith))

-- a part's tree lies between
in_tile : (s : List ℕ) (parts : List ℕ) (here top x : ℕ) → Tile s parts here top → ((y : ℕ) → y < top → start s y ≤ y) → Contains parts x → here ≤ start s x
in_tile s [] here top x is low (k, less, e) = absurd (omega arith)
in_tile s (y ∷ ys) here top x (same, before, more) low (zero, less, e) = subst (λ z. here ≤ start s z) e (omega arith)
in_tile s (y ∷ ys) here top x (same, before, more) low (suc k, less, e) =
    let r = in_tile s ys (suc y) top x more low (k, omega arith, e) in
    let l = low y before in omega arith

-- what lies between is in a part's tree
cover : (s : List ℕ) (parts : List ℕ) (here top n : ℕ) → Tile s parts here top → here ≤ n → n < top → (x : ℕ) × Contains parts x × (start s x ≤ n) × (n ≤ x)
cover s [] here top n is low high = absurd (omega arith)
cover s (y ∷ ys) here top n (same, before, more) low high = elim (below_or_not y n) [
  | inl past ↦ (let (x, has, a, b) = cover s ys (suc y) top n more past high in (x, later y ys x has, a, b))
  | inr within ↦ (y, first y ys, omega arith, within)
]

holds_through : (nodes : List Node) (p q n : ℕ) → Holds nodes p q → Holds nodes q n → Holds nodes p n
holds_through nodes p q n h (part is) = deep h is
holds_through nodes p q n h (deep {q = r} held is) = deep (holds_through nodes p q r h held) is

part_start : (nodes : List Node) → IsTiled nodes → (p n : ℕ) → IsPart nodes p n → start (starts nodes) p ≤ start (starts nodes) n
part_start nodes tiled p n (node, there, has) =
    let within = slice_get_within nodes p node there in
    in_tile (starts nodes) node.parts (start (starts nodes) p) p n (tiled p node there) (λ y less. starts_low nodes tiled (suc y) y (omega arith) (omega arith)) has

held_start : (nodes : List Node) → IsTiled nodes → (p n : ℕ) → Holds nodes p n → start (starts nodes) p ≤ start (starts nodes) n
held_start nodes tiled p n (part is) = part_start nodes tiled p n is
held_start nodes tiled p n (deep {q = q} held is) = let a = held_start nodes tiled p q held in let b = part_start nodes tiled q n is in omega arith

within_held : (nodes : List Node) → IsTree nodes → IsTiled nodes → (fuel p n : ℕ) → p < fuel → p < length nodes → IsWithin (starts nodes) p n → Holds nodes p n
within_held nodes tree tiled zero p n few low is = absurd (omega arith)
within_held nodes tree tiled (suc fuel) p n few low (from, less) =
    let (node, there) = there_is nodes p low in
    let (x, has, a, b) = cover (starts nodes) node.parts (start (starts nodes) p) p n (tiled p node there) from less in
    let under = tree.after p x (node, there, has) in
    elim (below_or_not n x) [
      | inl deeper ↦ holds_through nodes p x n (part (node, there, has)) (within_held nodes tree tiled fuel x n (omega arith) (omega arith) (a, deeper))
      | inr last ↦ part (node, there, subst (λ z. Contains node.parts z) (same x n b last) has)
    ] where
      same : (x n : ℕ) → n ≤ x → x ≤ n → x ≡ n
      same x n g h = omega arith

pub held_within : (nodes : List Node) → IsTree nodes → IsTiled nodes → (p n : ℕ) → p < length nodes → Holds nodes p n ↔ IsWithin (starts nodes) p n
held_within nodes tree tiled p n low = (
  λ h. (let s = held_start nodes tiled p n h in
      let after = holds_after nodes tree p n h in
      let own = starts_low nodes tiled (suc n) n (omega arith) (omega arith) in (omega arith, after)),
  λ is. within_held nodes tree tiled (suc p) p n (omega arith) low is,
)
