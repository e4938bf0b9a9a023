-- The pieces of a file, and what each has to be (Go 1.17, "Source file organization").
use Rattle.std.specs.Prelude.{ℕ, suc, ◌+◌, ◌-◌, ◌<◌, ◌≤◌, ◌≡◌, ◌⊎◌, Bool, true, false, List, [], ◌∷◌, ◌==◌, cond, ◌||◌, ◌&&◌, length}
use Rattle.go_tree.specs.declared.grammar.Category.{Category}
use Rattle.go_tree.specs.declared.grammar.Category.TheVariants.{ClausePiece, TopPiece, Declaration}
use Rattle.go_tree.specs.declared.grammar.Stage.{Stage}
use Rattle.go_tree.specs.declared.grammar.Stage.TheVariants.{Clause, Imports, Declarations}
use Rattle.go_tree.specs.declared.grammar.Symbol.TheVariants.{Inline}
use Rattle.go_tree.specs.declared.token.Token.{Token}
use Rattle.go_tree.specs.declared.tree.FileTree.{FileTree}
use Rattle.go_tree.specs.Arena.{arena_of, depth}
use Rattle.go_tree.specs.Classes.{classes}
use Rattle.go_tree.specs.Forest.{Forest, Empty, ◌⊕◌}
use Rattle.go_tree.specs.Spells.{Spells}

-- The most that a tree nests.
abbrev pub depth_limit : ℕ
depth_limit = 250

-- the bracket depth after a token of a class: `(`, `[` and `{` raise it, `)`, `]` and `}` lower it, and zero stays zero
abbrev pub deeper : ℕ → ℕ → ℕ
deeper d c = cond (c == 36 || (c == 38 || c == 40)) (suc d) (cond (c == 37 || (c == 39 || c == 41)) (d - 1) d)

-- a token more at the front of the first piece
abbrev pub onto : ℕ → List (List ℕ) → List (List ℕ)
onto c [] = (c ∷ []) ∷ []
onto c (p ∷ ps) = (c ∷ p) ∷ ps

-- The tokens between the semicolons at bracket depth zero. The last piece is what stands after the last semicolon.
abbrev pub pieces : ℕ → List ℕ → List (List ℕ)
pieces d [] = [] ∷ []
pieces d (c ∷ cs) = cond (c == 31 && d == 0) ([] ∷ pieces 0 cs) (onto c (pieces (deeper d c) cs))

-- what a piece has to be: the package clause first, then imports, and declarations after them
abbrev pub wanted : Stage → Category
wanted Clause = ClausePiece
wanted Imports = TopPiece
wanted Declarations = Declaration

abbrev pub is_import : List ℕ → Bool
is_import [] = false
is_import (c ∷ cs) = c == 20

abbrev pub after : Stage → List ℕ → Stage
after Clause p = Imports
after Imports p = cond (is_import p) Imports Declarations
after Declarations p = Declarations

-- no piece is missing at the end
abbrev pub IsEnough : Stage → Type 0
IsEnough Clause = ⊥
IsEnough Imports = Unit {0}
IsEnough Declarations = Unit {0}

-- the tokens of a piece, which begins at a place, are what its stage wants, with these trees
abbrev pub SpellsPiece : Stage → ℕ → List ℕ → Forest → Type 0
SpellsPiece s at p f = Spells (at + length p) (Inline (wanted s) ∷ []) f p []

-- Each piece with its semicolon is what its stage wants, and nothing stands after the last semicolon. The trees stand side by side.
abbrev pub SpellsPieces : Stage → ℕ → List (List ℕ) → Forest → Type 0
SpellsPieces s at [] f = ⊥
SpellsPieces s at (p ∷ []) f = IsEnough s × (p ≡ []) × (f ≡ Empty)
SpellsPieces s at (p ∷ (q ∷ ps)) f = (g : Forest) × (h : Forest) × SpellsPiece s at p g × SpellsPieces (after s p) (at + length p + 1) (q ∷ ps) h × (g ⊕ h ≡ f)

-- The tokens of these classes are a file.
abbrev pub SpellsFile : List ℕ → Forest → Type 0
SpellsFile cs f = SpellsPieces Clause 0 (pieces 0 cs) f

-- The tokens are a file, and this is its tree, at most 250 deep.
pub record Spelled (tokens : List Token) (source : List ℕ) (tree : FileTree) : Type 0 where
  pub forest : Forest
  pub spelled : SpellsFile (classes source tokens) forest
  pub arena : arena_of tokens forest ≡ tree
  pub shallow : depth forest ≤ depth_limit

-- A file's tokens are spelled, but by a tree that nests deeper.
pub record SpelledDeep (tokens : List Token) (source : List ℕ) : Type 0 where
  pub forest : Forest
  pub spelled : SpellsFile (classes source tokens) forest
  pub deep : depth_limit < depth forest

-- what is found of the pieces in turn, with the number of a token
pub data Finding : Type 0 where
  Fine : Finding
  Syntax : ℕ → Finding
  TooDeep : ℕ → Finding

-- A piece that no tree spells, or none that is no deeper than a tree may be, or one that a tree spells.
abbrev pub Unspelled : Stage → ℕ → List ℕ → Type 0
Unspelled s at p = (g : Forest) → SpellsPiece s at p g → ⊥

-- The finding is that of the first piece, in turn, that no tree of depth at most 250 spells. It is told at the piece's
-- first token, which is its semicolon where the piece is empty. What stands after the last semicolon is no piece of a file.
abbrev pub Finds : Stage → ℕ → List (List ℕ) → Finding → Type 0
Finds s at [] v = ⊥
Finds s at (p ∷ []) v = ((v ≡ Fine) × IsEnough s × (p ≡ [])) ⊎ ((v ≡ Syntax at) × (IsEnough s × (p ≡ []) → ⊥))
Finds s at (p ∷ (q ∷ ps)) v =
    ((v ≡ Syntax at) × Unspelled s at p)
    ⊎ ((v ≡ TooDeep at) × (g : Forest) × SpellsPiece s at p g × (depth_limit < depth g))
    ⊎ ((g : Forest) × SpellsPiece s at p g × (depth g ≤ depth_limit) × Finds (after s p) (at + length p + 1) (q ∷ ps) v)
