-- What the grammar spells: the one generic meaning of its table.
use Rattle.std.specs.Prelude.{ℕ, Bool, true, List, [], ◌∷◌, ◌≡◌, ◌⊎◌, ◌≤◌, ◌-◌, length}
use Rattle.go_tree.specs.declared.grammar.Ending.{Ending}
use Rattle.go_tree.specs.declared.grammar.Ending.TheVariants.{Is, Bare, Tail}
use Rattle.go_tree.specs.declared.grammar.Category.{Category}
use Rattle.go_tree.specs.declared.grammar.Setting.{Setting}
use Rattle.go_tree.specs.declared.grammar.Terminal.{Terminal}
use Rattle.go_tree.specs.declared.grammar.Symbol.{Symbol}
use Rattle.go_tree.specs.declared.grammar.Symbol.TheVariants.{Token, Part, Inline, Operand}
use Rattle.go_tree.specs.declared.tree.NodeKind.{NodeKind}
use Rattle.go_tree.specs.Arena.{kinds}
use Rattle.go_tree.specs.Choice.{permits, stands, whole}
use Rattle.go_tree.specs.Classes.{next}
use Rattle.go_tree.specs.Forest.{Forest, Empty, Grow, ◌⊕◌}
use Rattle.go_tree.specs.Inlines.{inlines}
use Rattle.go_tree.specs.Nodes.{nodes}
use Rattle.go_tree.specs.Operands.{prefixes, suffixes}
use Rattle.go_tree.specs.Rule.{Rule}
use Rattle.go_tree.specs.Shape.{shape}
use Rattle.go_tree.specs.Terminals.{admits}

abbrev pub Among : {A : Type 0} → A → List A → Type 0
Among x [] = ⊥
Among x (y ∷ ys) = (y ≡ x) ⊎ Among x ys

mutual
  -- Of n tokens, of which those of the classes xs are left: the symbols spell a front of xs, with these trees, and leave ys.
  pub data Spells (n : ℕ) : List Symbol → Forest → List ℕ → List ℕ → Type 0 where
    done : {xs : List ℕ} → Spells n [] Empty xs xs
    token : {s : Terminal} {ss : List Symbol} {f : Forest} {x : ℕ} {xs ys : List ℕ}
        → admits s (next (x ∷ xs)) ≡ true → Spells n ss f xs ys → Spells n (Token s ∷ ss) f (x ∷ xs) ys
    inline : {c : Category} {ss : List Symbol} {g f : Forest} {xs ys zs : List ℕ}
        → (r : List Symbol) → Among r (inlines c) → permits c r (next xs) ≡ true → Spells n r g xs ys → Spells n ss f ys zs → Spells n (Inline c ∷ ss) (g ⊕ f) xs zs
    node : {c : Category} {ss : List Symbol} {t f : Forest} {xs ys zs : List ℕ}
        → Closes n (Tail c) (n - length xs) Empty t xs ys → Spells n ss f ys zs
        → Spells n (Part c ∷ ss) (t ⊕ f) xs zs
    prefix : {p : ℕ} {l : Setting} {ss : List Symbol} {parts t f : Forest} {xs ws ys zs : List ℕ}
        → (r : Rule) → Among r (prefixes l) → p ≤ r.level → Spells n r.symbols parts xs ws → Closes n r.ending (n - length xs) parts t ws ys → Spells n ss f ys zs
        → Spells n (Operand p l ∷ ss) (t ⊕ f) xs zs
    suffix : {p : ℕ} {l : Setting} {ss : List Symbol} {left parts t f : Forest} {xs ys vs zs ws : List ℕ}
        → (r : Rule) → Among r (suffixes l) → p ≤ r.level
        → Spells n (Operand r.left l ∷ []) left xs ys → Spells n r.symbols parts ys vs → Closes n r.ending (n - length xs) (left ⊕ parts) t vs zs → Spells n ss f zs ws
        → Spells n (Operand p l ∷ ss) (t ⊕ f) xs ws

  -- What began at a token, with these parts so far, ends as these trees: one node, or the parts themselves.
  pub data Closes (n : ℕ) : Ending → ℕ → Forest → Forest → List ℕ → List ℕ → Type 0 where
    is : {k : NodeKind} {a : ℕ} {parts : Forest} {xs : List ℕ} → Closes n (Is k) a parts (Grow k a (n - length xs - 1) parts Empty) xs xs
    bare : {a : ℕ} {parts : Forest} {xs : List ℕ} → Closes n Bare a parts parts xs xs
    tail : {c : Category} {a : ℕ} {before parts t : Forest} {xs ys zs : List ℕ}
        → (r : Rule) → Among r (nodes c) → stands c r (next xs) (shape (kinds before)) ≡ true
        → Spells n r.symbols parts xs ys → Closes n r.ending a (before ⊕ parts) t ys zs
        → Closes n (Tail c) a before t xs zs
