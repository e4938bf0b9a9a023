-- What nodes head labels and jumps, as the code finds them.
use Rattle.std.specs.Prelude.{ℕ, ◌<◌, ◌≤◌, ◌≡◌, ◌⊎◌, Bool, true, false, cond, List, length, Option, Some, None, get_or, slice_get}
use Rattle.go_tree.specs.declared.tree.Node.{Node}
use Rattle.go_tree.specs.declared.tree.NodeKind.{NodeKind}
use Rattle.label_uses.specs.Labels.{Heads}
use Rattle.label_uses.specs.declared.heads.Headed.{Headed}

-- the first part of a node of such a kind
abbrev pub head_in : (NodeKind → Bool) → Node → Option ℕ
head_in kinds node = cond (kinds node.kind) (slice_get node.parts 0) None

abbrev pub flagged : Headed → ℕ → Bool
flagged h n = get_or h.flags.items n false

abbrev pub IsBetween : Headed → ℕ → Type 0
IsBetween h n = (h.low ≤ n) × (n < h.high)

-- Those are flagged that head a node of such a kind, and of these all that head one of the first few nodes. They stand between the two numbers.
pub record AreHeads (kinds : NodeKind → Bool) (nodes : List Node) (few : ℕ) (h : Headed) : Type 0 where
  pub size : length h.flags.items ≡ length nodes
  pub sound : (n : ℕ) → flagged h n ≡ true → Heads kinds nodes n
  pub every : (p n : ℕ) (node : Node) → p < few → slice_get nodes p ≡ Some node → head_in kinds node ≡ Some n → n < length nodes → flagged h n ≡ true
  pub within : (n : ℕ) → flagged h n ≡ true → IsBetween h n
  pub begins : h.low ≤ length nodes
  pub ends : h.high ≤ length nodes

-- one more is flagged, if it is one of the nodes
pub record IsNoted (head : Option ℕ) (old new : Headed) : Type 0 where
  pub size : length new.flags.items ≡ length old.flags.items
  pub sound : (n : ℕ) → flagged new n ≡ true → (flagged old n ≡ true) ⊎ ((head ≡ Some n) × IsBetween new n)
  pub kept : (n : ℕ) → flagged old n ≡ true → flagged new n ≡ true
  pub set : (n : ℕ) → head ≡ Some n → n < length old.flags.items → flagged new n ≡ true
  pub lower : new.low ≤ old.low
  pub higher : old.high ≤ new.high
  pub ends : old.high ≤ length old.flags.items → new.high ≤ length old.flags.items
