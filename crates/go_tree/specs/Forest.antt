-- Trees side by side, as the grammar makes them: before they are numbered.
use Rattle.std.specs.Prelude.{ℕ, zero, suc}
use Rattle.go_tree.specs.declared.tree.NodeKind.{NodeKind}

-- a node, with the first and the last of its tokens and its parts, and the trees right of it
pub data Forest : Type 0 where
  Empty : Forest
  Grow : (kind : NodeKind) (first last : ℕ) (parts rest : Forest) → Forest

infixl 10 ◌⊕◌
abbrev pub ◌⊕◌ : Forest → Forest → Forest
Empty ⊕ g = g
(Grow k a b ps f) ⊕ g = Grow k a b ps (f ⊕ g)

abbrev pub count : Forest → ℕ
count Empty = 0
count (Grow k a b ps f) = suc (count f)

abbrev pub front : ℕ → Forest → Forest
front zero f = Empty
front (suc n) Empty = Empty
front (suc n) (Grow k a b ps f) = Grow k a b ps (front n f)

abbrev pub back : ℕ → Forest → Forest
back zero f = f
back (suc n) Empty = Empty
back (suc n) (Grow k a b ps f) = back n f
