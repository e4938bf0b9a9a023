-- A small file that is spelled: `package p;import "x";type T c;`. Tests begin with it.
use Rattle.std.proofs.Common.{◌≡◌, ℕ, ◌+◌, ◌≤◌, ◌-◌, List, [], ◌∷◌, length, refl, sym, subst, inl, inr, arith}
use Rattle.std.specs.Prelude.{codes}
use Rattle.go_tree.specs.Arena.{arena_of, depth, flat, roots, node_of}
use Rattle.go_tree.specs.Classes.{classes}
use Rattle.go_tree.specs.First.{first, nullable}
use Rattle.go_tree.specs.Follow.{follow}
use Rattle.go_tree.specs.Inlines.{greedy, inlines}
use Rattle.go_tree.specs.Nodes.{nodes}
use Rattle.go_tree.specs.Forest.{Forest, Empty, Grow}
use Rattle.go_tree.specs.Pieces.{Spelled, SpellsFile, SpellsPiece}
use Rattle.go_tree.specs.Spells.{Spells, Closes, done, token, inline, node, is, bare, tail}
use Rattle.go_tree.specs.declared.grammar.Category.TheVariants as c
use Rattle.go_tree.specs.declared.grammar.Stage.TheVariants.{Clause, Imports, Declarations}
use Rattle.go_tree.specs.declared.token.Token.{Token}
use Rattle.go_tree.specs.declared.token.TokenKind.TheVariants.{Name, Text, Keyword, Semi}
use Rattle.go_tree.specs.declared.tree.NodeKind.TheVariants as k
use Rattle.go_tree.specs.declared.tree.Node.{Node}
use Rattle.go_tree.specs.declared.tree.FileTree.{FileTree}

abbrev pub sample_tokens : List Token
sample_tokens =
    record { kind = Keyword 17; start = 0; «end» = 7 }
    ∷ record { kind = Name; start = 8; «end» = 9 }
    ∷ record { kind = Semi; start = 9; «end» = 10 }
    ∷ record { kind = Keyword 14; start = 10; «end» = 16 }
    ∷ record { kind = Text; start = 17; «end» = 20 }
    ∷ record { kind = Semi; start = 20; «end» = 21 }
    ∷ record { kind = Keyword 23; start = 21; «end» = 25 }
    ∷ record { kind = Name; start = 26; «end» = 27 }
    ∷ record { kind = Name; start = 28; «end» = 29 }
    ∷ record { kind = Semi; start = 29; «end» = 30 }
    ∷ []

abbrev pub sample_forest : Forest
sample_forest =
    Grow k.Package 0 1 (Grow k.Name 1 1 Empty Empty)
    (Grow k.Import 3 4 (Grow k.ImportPath 4 4 Empty Empty)
    (Grow k.TypeDecl 6 8 (Grow k.Defined 7 8 (Grow k.Name 7 7 Empty (Grow k.Name 8 8 Empty Empty)) Empty)
    Empty))

clause : SpellsPiece Clause 0 (23 ∷ 0 ∷ []) (Grow k.Package 0 1 (Grow k.Name 1 1 Empty Empty) Empty)
unfolding inlines nodes greedy first nullable follow
clause = inline {c = c.ClausePiece} _ (inl refl) refl
    (node {c = c.Clause} (tail _ (inl refl) refl (token refl (node {c = c.NamedIdent} (tail _ (inl refl) refl (token refl done) is) done)) is) done) done

imported : SpellsPiece Imports 3 (20 ∷ 5 ∷ []) (Grow k.Import 3 4 (Grow k.ImportPath 4 4 Empty Empty) Empty)
unfolding inlines nodes greedy first nullable follow
imported = inline {c = c.TopPiece} _ (inl refl) refl
    (node {c = c.Import} (tail _ (inl refl) refl (token refl done)
    (tail {c = c.ImportTail} _ (inl refl) refl (node {c = c.ImportSpec} (tail _ (inl refl) refl (token refl done) is) done) is)) done) done

declared : SpellsPiece Imports 6 (29 ∷ 0 ∷ 0 ∷ []) (Grow k.TypeDecl 6 8 (Grow k.Defined 7 8 (Grow k.Name 7 7 Empty (Grow k.Name 8 8 Empty Empty)) Empty) Empty)
unfolding inlines nodes greedy first nullable follow
declared = inline {c = c.TopPiece} _ (inr (inl refl)) refl (inline {c = c.Declaration} _ (inr (inl refl)) refl
    (node {c = c.Types} (tail _ (inl refl) refl (token refl done)
    (tail {c = c.TypesTail} _ (inl refl) refl
    (node {c = c.TypeSpec} (tail _ (inl refl) refl (node {c = c.Ident} (tail _ (inl refl) refl (token refl done) is) done)
    (tail {c = c.TypeSpecTail} _ (inl refl) refl
    (node {c = c.Type} (tail _ (inl refl) refl (node {c = c.Ident} (tail _ (inl refl) refl (token refl done) is) done)
    (tail {c = c.NameTail} _ (inl refl) refl done bare)) done) is)) done) is)) done) done) done

spelled : SpellsFile (classes (codes "package p;import \"x\";type T c;") sample_tokens) sample_forest
spelled = (_, _, clause, (_, _, imported, (_, _, declared, (tt, refl, refl), refl), refl), refl)

pub sample_nodes : (a b c d e f g h : Node) → a ≡ node_of k.Name 1 1 [] → b ≡ node_of k.Package 0 1 (0 ∷ []) → c ≡ node_of k.ImportPath 4 4 [] → d ≡ node_of k.Import 3 4 (2 ∷ [])
    → e ≡ node_of k.Name 7 7 [] → f ≡ node_of k.Name 8 8 [] → g ≡ node_of k.Defined 7 8 (4 ∷ (5 ∷ [])) → h ≡ node_of k.TypeDecl 6 8 (6 ∷ [])
    → a ∷ (b ∷ (c ∷ (d ∷ (e ∷ (f ∷ (g ∷ (h ∷ []))))))) ≡ flat 0 sample_forest
sample_nodes a b c d e f g h ea eb ec ed ee ef eg eh = rw (ea, eb, ec, ed, ee, ef, eg, eh) refl

pub sample_spelled : (tokens : List Token) (nodes : List Node) (tops : List ℕ) → tokens ≡ sample_tokens → nodes ≡ flat 0 sample_forest → tops ≡ roots 0 sample_forest
    → Spelled tokens (codes "package p;import \"x\";type T c;") (record { tokens = tokens; nodes = nodes; tops = tops })
sample_spelled tokens nodes tops et en eo = record {
  forest = sample_forest;
  spelled = subst (λ (ts : List Token). SpellsFile (classes (codes "package p;import \"x\";type T c;") ts) sample_forest) (sym et) spelled;
  arena = arena;
  shallow = (let d : depth sample_forest ≤ 250 = omega arith in d);
} where
  arena : arena_of tokens sample_forest ≡ record { tokens = tokens; nodes = nodes; tops = tops }
  arena = cc
