-- Which nodes are uses: names that no node declares or names.
use Rattle.std.specs.Prelude.{ℕ, ◌-◌, ◌<◌, ◌≡◌, ◌⊎◌, Bool, true, false, cond, ◌==◌, List, length, get_or, Option, Some, None, slice_get}
use Rattle.std.specs.List.{Contains}
use Rattle.go_tree.specs.declared.tree.Node.{Node}
use Rattle.scopes.specs.Roles.{role}

-- the part of a node that names what it declares, a package, a field, a method or a label
abbrev pub named_part : Node → Option ℕ
named_part node = cond ((role node.kind).named == 0) None (slice_get node.parts ((role node.kind).named - 1))

-- n is the part, or a part of it
abbrev pub IsOfPart : List Node → ℕ → ℕ → Type 0
IsOfPart nodes part n = (part ≡ n) ⊎ ((names : Node) × (slice_get nodes part ≡ Some names) × Contains names.parts n)

-- n is the part of the node p that names something, or stands in it
abbrev pub IsNamedBy : List Node → ℕ → ℕ → Type 0
IsNamedBy nodes p n = (node : Node) × (part : ℕ) × (slice_get nodes p ≡ Some node) × (named_part node ≡ Some part) × IsOfPart nodes part n

abbrev pub IsSet : List Bool → ℕ → Type 0
IsSet flags n = get_or flags n false ≡ true

-- the flags that hold are those that held before, without those of P
pub record IsCleared (old new : List Bool) (P : ℕ → Type 0) : Type 0 where
  pub size : length new ≡ length old
  pub kept : (n : ℕ) → IsSet new n → IsSet old n
  pub gone : (n : ℕ) → IsSet new n → P n → ⊥
  pub left : (n : ℕ) → IsSet old n → (P n → ⊥) → IsSet new n

-- no node names n
abbrev pub IsPlain : List Node → ℕ → Type 0
IsPlain nodes n = (p : ℕ) → IsNamedBy nodes p n → ⊥

-- the flags of the nodes that none names
pub record ArePlain (nodes : List Node) (flags : List Bool) : Type 0 where
  pub size : length flags ≡ length nodes
  pub plain : (n : ℕ) → IsSet flags n → IsPlain nodes n
  pub all : (n : ℕ) → n < length nodes → IsPlain nodes n → IsSet flags n
