-- The innermost function of each node, by node.
use Rattle.std.specs.Prelude.{ℕ, ◌<◌, ◌≤◌, ◌≡◌, ◌⊎◌, ◌↔◌, cond, List, length, get_or}
use Rattle.std.specs.List.{Contains}
use Rattle.go_tree.specs.declared.tree.Node.{Node}
use Rattle.go_tree.specs.Kinds.{is_function}
use Rattle.label_uses.specs.Functions.{IsFunction, IsPart, Holds, FunctionOf, SameFunction}

-- the number of a node: 0 where there is none
abbrev pub at : List ℕ → ℕ → ℕ
at numbers n = get_or numbers n 0

-- the parts have the number p, and the other nodes what they had
pub record AreGiven (parts : List ℕ) (p : ℕ) (old new : List ℕ) : Type 0 where
  pub size : length new ≡ length old
  pub each : (n : ℕ) → n < length old → ((at new n ≡ p) × Contains parts n) ⊎ ((at new n ≡ at old n) × (Contains parts n → ⊥))

-- a node is a part of one node at most, which comes after it
pub record IsTree (nodes : List Node) : Type 0 where
  pub one : (p q n : ℕ) → IsPart nodes p n → IsPart nodes q n → p ≡ q
  pub after : (p n : ℕ) → IsPart nodes p n → n < p

-- the function that p is, or else the one that is known for p
abbrev pub inside : List ℕ → ℕ → Node → ℕ
inside functions p node = cond (is_function node.kind) p (at functions p)

-- the number is that of the innermost function that holds n, or that of all nodes where none holds it
abbrev pub Innermost : List Node → ℕ → ℕ → Type 0
Innermost nodes n b = FunctionOf nodes n b ⊎ ((b ≡ length nodes) × ((g : ℕ) → IsFunction nodes g → Holds nodes g n → ⊥))

-- the parts of the nodes from a few on have their functions, and the others that of none
pub record AreFilled (nodes : List Node) (few : ℕ) (functions : List ℕ) : Type 0 where
  pub size : length functions ≡ length nodes
  pub each : (n : ℕ) → n < length nodes → Innermost nodes n (at functions n) ⊎ ((at functions n ≡ length nodes) × ((q : ℕ) → few ≤ q → IsPart nodes q n → ⊥))

-- two nodes have one number exactly where they have one innermost function, or none
pub record AreFunctions (nodes : List Node) (functions : List ℕ) : Type 0 where
  pub size : length functions ≡ length nodes
  pub same : (a b : ℕ) → a < length nodes → b < length nodes → (at functions a ≡ at functions b) ↔ SameFunction nodes a b
