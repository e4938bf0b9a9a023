-- Which alternative a token decides for.
use Rattle.std.specs.Prelude.{ℕ, Bool, true, false, List, [], ◌∷◌, cond, ◌||◌, ◌&&◌, nat_lt, Option, Some, None, not, ◌++◌}
use Rattle.go_tree.specs.declared.grammar.Ending.{Ending}
use Rattle.go_tree.specs.declared.grammar.Ending.TheVariants.{Is, Bare, Tail}
use Rattle.go_tree.specs.declared.grammar.Category.{Category}
use Rattle.go_tree.specs.declared.grammar.Setting.{Setting}
use Rattle.go_tree.specs.declared.grammar.Shape.{Shape}
use Rattle.go_tree.specs.declared.grammar.Symbol.{Symbol}
use Rattle.go_tree.specs.declared.grammar.Symbol.TheVariants.{Token, Part, Inline, Operand}
use Rattle.go_tree.specs.Classes.{level_of}
use Rattle.go_tree.specs.First.{first, nullable, first_operand}
use Rattle.go_tree.specs.Follow.{follow}
use Rattle.go_tree.specs.Inlines.{greedy, inlines}
use Rattle.go_tree.specs.Nodes.{nodes}
use Rattle.go_tree.specs.Operands.{prefixes, suffixes}
use Rattle.go_tree.specs.Rule.{Rule}
use Rattle.go_tree.specs.Shape.{meets}
use Rattle.go_tree.specs.Terminals.{admits}

abbrev pub first_symbol : Symbol → ℕ → Bool
first_symbol (Token s) c = admits s c
first_symbol (Part x) c = first x c
first_symbol (Inline x) c = first x c
first_symbol (Operand p l) c = first_operand c

abbrev pub may_be_empty : Symbol → Bool
may_be_empty (Token s) = false
may_be_empty (Part x) = nullable x
may_be_empty (Inline x) = nullable x
may_be_empty (Operand p l) = false

abbrev pub follow_symbol : Symbol → ℕ → Bool
follow_symbol (Token s) c = true
follow_symbol (Part x) c = follow x c
follow_symbol (Inline x) c = follow x c
follow_symbol (Operand p l) c = nat_lt (level_of c) p

-- the classes that may begin the symbols, before one of p
abbrev pub begins : List Symbol → (ℕ → Bool) → ℕ → Bool
begins [] p c = p c
begins (s ∷ ss) p c = first_symbol s c || (may_be_empty s && begins ss p c)

abbrev pub nothing : ℕ → Bool
nothing c = false

abbrev pub pick : {A : Type 0} → (A → Bool) → List A → Option A
pick p [] = None
pick p (x ∷ xs) = cond (p x) (Some x) (pick p xs)

abbrev pub empty : List Symbol → Bool
empty [] = true
empty (s ∷ ss) = may_be_empty s && empty ss

-- whether the alternative may be taken before the class
abbrev pub permits : Category → List Symbol → ℕ → Bool
permits x r c = not (greedy x && (empty r && first x c))

-- the rest of a rule, as a symbol
abbrev pub rest : Ending → List Symbol
rest (Is k) = []
rest Bare = []
rest (Tail x) = Inline x ∷ []

abbrev pub whole : Rule → List Symbol
whole r = r.symbols ++ rest r.ending

abbrev pub fits_inline : Category → ℕ → List Symbol → Bool
fits_inline x c r = begins r (follow x) c && permits x r c

-- whether the rule may be taken before the class, where the parts so far have a shape
abbrev pub stands : Category → Rule → ℕ → Shape → Bool
stands x r c s = permits x (whole r) c && (admits r.before c && meets r.guard s)

abbrev pub fits_node : Category → ℕ → Shape → Rule → Bool
fits_node x c s r = begins (whole r) (follow x) c && stands x r c s

abbrev pub pick_inline : Category → ℕ → Option (List Symbol)
pick_inline x c = pick (fits_inline x c) (inlines x)

abbrev pub pick_node : Category → ℕ → Shape → Option Rule
pick_node x c s = pick (fits_node x c s) (nodes x)

abbrev pub pick_prefix : Setting → ℕ → Option Rule
pick_prefix l c = pick (λ r. begins (whole r) nothing c) (prefixes l)

abbrev pub pick_suffix : Setting → ℕ → Option Rule
pick_suffix l c = pick (λ r. begins (whole r) nothing c) (suffixes l)
