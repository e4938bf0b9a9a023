-- What stands above the stack once the name with which a part begins is taken.
use Rattle.std.specs.Prelude.{ℕ, ◌≡◌, ◌==◌, false, ◌⊎◌, [], ◌∷◌, length}
use Rattle.go_tree.specs.declared.grammar.Category.{Category}
use Rattle.go_tree.specs.declared.grammar.Category.TheVariants as categories
use Rattle.go_tree.specs.declared.grammar.Ending.{Ending}
use Rattle.go_tree.specs.declared.grammar.Ending.TheVariants.{Is, Bare, Tail}
use Rattle.go_tree.specs.declared.grammar.Setting.{Setting}
use Rattle.go_tree.specs.declared.grammar.Setting.TheVariants as settings
use Rattle.go_tree.specs.declared.tree.NodeKind.TheVariants as nodes
use Rattle.go_parse.specs.declared.parser.Task.TheVariants.{Close, After}
use Rattle.go_parse.specs.State.{State, pushed}

-- how an operand that begins with a name goes on
abbrev pub name_end : Setting → Ending
name_end settings.Free = Tail categories.LitTail
name_end settings.Header = Bare

-- the name of an identifier
abbrev pub ident_taken : ℕ → State → State
ident_taken at s = pushed (Close (Is nodes.Name) at (length s.pending) ∷ []) s

-- that of a type
abbrev pub type_taken : ℕ → State → State
type_taken at s = pushed (Close (Is nodes.Name) at (length s.pending) ∷ Close (Tail categories.NameTail) at (length s.pending) ∷ []) s

-- that of an operand of at least the level p
abbrev pub operand_taken : ℕ → Setting → ℕ → State → State
operand_taken p v at s = pushed (Close (Is nodes.Name) at (length s.pending) ∷ Close (Tail categories.NameTail) at (length s.pending) ∷ Close (name_end v) at (length s.pending) ∷ After p 8 v at (length s.pending) ∷ []) s

-- no point follows a name, or no brace an operand
abbrev pub IsAtEnd : Category → ℕ → Type 0
IsAtEnd x c = ((x ≡ categories.NameTail) × ((c == 34) ≡ false)) ⊎ ((x ≡ categories.LitTail) × ((c == 40) ≡ false))
