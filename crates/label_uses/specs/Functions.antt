-- The innermost function that holds a node (Go 1.17, "Label scopes": the body of the function, without the bodies of nested functions).
use Rattle.std.specs.Prelude.{ℕ, ◌≡◌, ◌⊎◌, ◌↔◌, Bool, true, false, List, Some, slice_get}
use Rattle.std.specs.List.{Contains}
use Rattle.go_tree.specs.declared.tree.Node.{Node}
use Rattle.go_tree.specs.Kinds.{is_function}

abbrev pub IsFunction : List Node → ℕ → Type 0
IsFunction nodes f = (node : Node) × (slice_get nodes f ≡ Some node) × (is_function node.kind ≡ true)

-- n is a part of p
abbrev pub IsPart : List Node → ℕ → ℕ → Type 0
IsPart nodes p n = (node : Node) × (slice_get nodes p ≡ Some node) × Contains node.parts n

-- p holds its parts, and the parts of what it holds
pub data Holds (nodes : List Node) (p : ℕ) : ℕ → Type 0 where
  part : {n : ℕ} → IsPart nodes p n → Holds nodes p n
  deep : {q n : ℕ} → Holds nodes p q → IsPart nodes q n → Holds nodes p n

-- f is the innermost function that holds n
pub record FunctionOf (nodes : List Node) (n f : ℕ) : Type 0 where
  pub function : IsFunction nodes f
  pub holds : Holds nodes f n
  pub innermost : (g : ℕ) → IsFunction nodes g → Holds nodes g n → (g ≡ f) ⊎ Holds nodes g f

-- one function is the innermost that holds both, or none holds either
abbrev pub SameFunction : List Node → ℕ → ℕ → Type 0
SameFunction nodes a b = (f : ℕ) → FunctionOf nodes a f ↔ FunctionOf nodes b f
