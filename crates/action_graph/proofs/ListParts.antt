-- A list of statements is a part of a clause alone.
use Rattle.std.proofs.Common.{◌≡◌, ℕ, suc, ◌+◌, Bool, true, false, not, ◌&&◌, ◌||◌, List, [], ◌∷◌, ◌++◌, length, slice_get, Some, refl, sym, ap, ◌∙◌, subst, arith}
use Rattle.std.specs.List.{All}
use Rattle.std.proofs.lemmas.List.Elements.{All-nil, All-cons, All-append}
use Rattle.std.proofs.lemmas.Option.{same_Some}
use Rattle.go_tree.specs.declared.grammar.Category.{Category}
use Rattle.go_tree.specs.declared.grammar.Category.TheVariants as c
use Rattle.go_tree.specs.declared.grammar.Ending.{Ending}
use Rattle.go_tree.specs.declared.grammar.Ending.TheVariants.{Is, Bare, Tail}
use Rattle.go_tree.specs.declared.grammar.Setting.{Setting}
use Rattle.go_tree.specs.declared.grammar.Setting.TheVariants as m
use Rattle.go_tree.specs.declared.grammar.Stage.{Stage}
use Rattle.go_tree.specs.declared.grammar.Stage.TheVariants.{Clause}
use Rattle.go_tree.specs.declared.grammar.Symbol.{Symbol}
use Rattle.go_tree.specs.declared.grammar.Symbol.TheVariants.{Token, Part, Inline, Operand}
use Rattle.go_tree.specs.declared.token.Token.{Token as Lexeme}
use Rattle.go_tree.specs.declared.tree.FileTree.{FileTree}
use Rattle.go_tree.specs.declared.tree.Node.{Node}
use Rattle.go_tree.specs.declared.tree.NodeKind.{NodeKind}
use Rattle.go_tree.specs.declared.tree.NodeKind.TheVariants as k
use Rattle.go_tree.specs.Arena.{flat, roots, size, node_of}
use Rattle.go_tree.specs.Classes.{classes}
use Rattle.go_tree.specs.Forest.{Forest, Empty, Grow, ◌⊕◌}
use Rattle.go_tree.specs.Inlines.{inlines}
use Rattle.go_tree.specs.Nodes.{nodes}
use Rattle.go_tree.specs.Operands.{prefixes, suffixes}
use Rattle.go_tree.specs.Pieces.{Spelled, SpellsPieces, pieces, after}
use Rattle.go_tree.specs.Rule.{Rule}
use Rattle.go_tree.specs.Spells.{Spells, Closes, done, token, inline, node, prefix, suffix, is, bare, tail}
use Rattle.go_parse.proofs.Check.{all, all_at, both}
use Rattle.node_values.proofs.StandLemmas.{StandsAt, stands_left, stands_right, stands_head, stands_all, size_flat}
use Rattle.action_graph.proofs.NodeTokens.{is_statements}

-- ---- the grammar's rules

abbrev pub is_clause : NodeKind → Bool
is_clause k.Case = true
is_clause k.Default = true
is_clause k.TypeCase = true
is_clause k.Comm = true
is_clause _ = false

abbrev is_list : Category → Bool
is_list c.List = true
is_list _ = false

-- no list of statements is among them
abbrev plain : List Symbol → Bool
plain [] = true
plain (Token t ∷ ss) = plain ss
plain (Part x ∷ ss) = not (is_list x) && plain ss
plain (Inline x ∷ ss) = plain ss
plain (Operand p l ∷ ss) = plain ss

-- what ends so is no list of statements
abbrev ends_plain : Ending → Bool
ends_plain (Is k) = not (is_statements k)
ends_plain Bare = true
ends_plain (Tail x) = not (is_list x)

abbrev ends_clause : Ending → Bool
ends_clause (Is k) = is_clause k
ends_clause Bare = false
ends_clause (Tail x) = false

abbrev tidy : Rule → Bool
tidy r = plain r.symbols || ends_clause r.ending

abbrev no_list : Rule → Bool
no_list r = ends_plain r.ending

abbrev all_plain : Rule → Bool
all_plain r = plain r.symbols && ends_plain r.ending

nodes_tidy : (x : Category) → all tidy (nodes x) ≡ true
unfolding nodes
nodes_tidy c.Clause = refl
nodes_tidy _ = refl

nodes_plain : (x : Category) → (is_list x || all no_list (nodes x)) ≡ true
unfolding nodes
nodes_plain c.Clause = refl
nodes_plain _ = refl

inlines_plain : (x : Category) → all plain (inlines x) ≡ true
unfolding inlines
inlines_plain c.ClausePiece = refl
inlines_plain _ = refl

prefixes_plain : (l : Setting) → all all_plain (prefixes l) ≡ true
unfolding prefixes
prefixes_plain m.Free = refl
prefixes_plain m.Header = refl

suffixes_plain : (l : Setting) → all all_plain (suffixes l) ≡ true
unfolding suffixes
suffixes_plain m.Free = refl
suffixes_plain m.Header = refl

-- ---- the trees that are spelled

-- none of the top nodes is a list of statements
abbrev Plain : Forest → Type 0
Plain Empty = Prim.Unit {0}
Plain (Grow k a b ps f) = (is_statements k ≡ false) × Plain f

abbrev Tidy : Forest → Type 0
Tidy Empty = Prim.Unit {0}
Tidy (Grow k a b ps f) = (is_clause k ≡ false → Plain ps) × Tidy ps × Tidy f

plain_beside : (f g : Forest) → Plain f → Plain g → Plain (f ⊕ g)
plain_beside Empty g one other = other
plain_beside (Grow k a b ps f) g one other = (one.0, plain_beside f g one.1 other)

tidy_beside : (f g : Forest) → Tidy f → Tidy g → Tidy (f ⊕ g)
tidy_beside Empty g one other = other
tidy_beside (Grow k a b ps f) g one other = (one.0, one.1, tidy_beside f g one.2 other)

not_true : (b : Bool) → not b ≡ true → b ≡ false
not_true true h = absurd (cc)
not_true false h = refl

first_of : (a b : Bool) → (a || b) ≡ true → b ≡ false → a ≡ true
first_of true b h g = refl
first_of false b h g = absurd (cc)

second_of : (a b : Bool) → (a || b) ≡ true → a ≡ false → b ≡ true
second_of true b h g = absurd (cc)
second_of false b h g = h

mutual
  spelled : {n : ℕ} {ss : List Symbol} {f : Forest} {xs ys : List ℕ} → Spells n ss f xs ys → Tidy f × (plain ss ≡ true → Plain f)
  spelled done = (tt, λ h. tt)
  spelled (token a s) = spelled s
  spelled (inline {c = x} {g = g} {f = f} r a m s t) =
      let first = spelled s in
      let more = spelled t in
      (tidy_beside g f first.0 more.0, λ h. plain_beside g f (first.1 (all_at plain (inlines x) r (inlines_plain x) a)) (more.1 h))
  spelled (node {c = x} {ss = ss} {t = u} {f = f} e t) =
      let first = closed e tt (λ h. tt) in
      let more = spelled t in
      (tidy_beside u f first.0 more.0, λ h. let parts = both (not (is_list x)) (plain ss) h in plain_beside u f (first.1 parts.0) (more.1 parts.1))
  spelled (prefix {l = l} {t = u} {f = f} r a low s e t) =
      let is = both (plain r.symbols) (ends_plain r.ending) (all_at all_plain (prefixes l) r (prefixes_plain l) a) in
      let parts = spelled s in
      let first = closed e parts.0 (λ h. parts.1 is.0) in
      let more = spelled t in
      (tidy_beside u f first.0 more.0, λ h. plain_beside u f (first.1 is.1) (more.1 h))
  spelled (suffix {l = l} {left = before} {parts = behind} {t = u} {f = f} r a low left s e t) =
      let is = both (plain r.symbols) (ends_plain r.ending) (all_at all_plain (suffixes l) r (suffixes_plain l) a) in
      let one = spelled left in
      let other = spelled s in
      let first = closed e (tidy_beside before behind one.0 other.0) (λ h. plain_beside before behind (one.1 refl) (other.1 is.0)) in
      let more = spelled t in
      (tidy_beside u f first.0 more.0, λ h. plain_beside u f (first.1 is.1) (more.1 h))

  closed : {n a : ℕ} {e : Ending} {b f : Forest} {xs ys : List ℕ} → Closes n e a b f xs ys → Tidy b → (ends_clause e ≡ false → Plain b) → Tidy f × (ends_plain e ≡ true → Plain f)
  closed (is {k = k}) each parts = ((parts, each, tt), λ h. (not_true (is_statements k) h, tt))
  closed bare each parts = (each, λ h. parts refl)
  closed (tail {c = x} {before = b} {parts = more} r a m s e) each parts =
      let behind = spelled s in
      let rest = closed e (tidy_beside b more each behind.0)
      (λ h. plain_beside b more (parts refl) (behind.1 (first_of (plain r.symbols) (ends_clause r.ending) (all_at tidy (nodes x) r (nodes_tidy x) a) h))) in
      (rest.0, λ h. rest.1 (all_at no_list (nodes x) r (second_of (is_list x) (all no_list (nodes x)) (nodes_plain x) (not_true (is_list x) h)) a))

each_piece : (s : Stage) (at : ℕ) (ps : List (List ℕ)) (f : Forest) → SpellsPieces s at ps f → Tidy f
each_piece s at [] f h = absurd h
each_piece s at (p ∷ []) f h = subst Tidy (sym h.2) tt
each_piece s at (p ∷ (q ∷ ps)) f (g, h, first, more, both) = subst Tidy both (tidy_beside g h (spelled first).0 (each_piece (after s p) (at + length p + 1) (q ∷ ps) h more))

-- ---- their nodes

-- the node of a number is no list of statements
abbrev pub NoList : List Node → ℕ → Type 0
NoList list j = (y : Node) → slice_get list j ≡ Some y → is_statements y.kind ≡ false

abbrev pub NodeTidy : List Node → Node → Type 0
NodeTidy list x = is_clause x.kind ≡ false → All (NoList list) x.parts

stands_here : (list : List Node) (m : ℕ) (ps : Forest) (x : Node) (more : List Node) → StandsAt list m (flat m ps ++ x ∷ more) → StandsAt list (m + size ps) (x ∷ more)
stands_here list m ps x more stands = stands_right list m (m + size ps) (flat m ps) (x ∷ more) (ap (λ n. m + n) (sym (size_flat m ps))) stands

stands_behind : (list : List Node) (m : ℕ) (ps : Forest) (x : Node) (more : List Node) → StandsAt list m (flat m ps ++ x ∷ more) → StandsAt list (m + suc (size ps)) more
stands_behind list m ps x more stands = stands_right list (m + size ps) (m + suc (size ps)) (x ∷ []) more (next m (size ps)) (stands_here list m ps x more stands) where
  next : (m n : ℕ) → m + suc n ≡ (m + n) + 1
  next m n = omega arith

roots_plain : (list : List Node) (m : ℕ) (f : Forest) → StandsAt list m (flat m f) → Plain f → All (NoList list) (roots m f)
roots_plain list m Empty stands h = All-nil (NoList list)
roots_plain list m (Grow k a b ps f) stands h =
    let x = node_of k a b (roots m ps) in
    let more = flat (m + suc (size ps)) f in
    let there = stands_head list (m + size ps) x more (stands_here list m ps x more stands) in
    All-cons (NoList list) (m + size ps) (roots (m + suc (size ps)) f) (λ y at. subst (λ (z : Node). is_statements z.kind ≡ false) (same_Some x y (sym there ∙ at)) h.0)
    (roots_plain list (m + suc (size ps)) f (stands_behind list m ps x more stands) h.1)

each_tidy : (list : List Node) (m : ℕ) (f : Forest) → StandsAt list m (flat m f) → Tidy f → All (NodeTidy list) (flat m f)
each_tidy list m Empty stands h = All-nil (NodeTidy list)
each_tidy list m (Grow k a b ps f) stands h =
    let x = node_of k a b (roots m ps) in
    let more = flat (m + suc (size ps)) f in
    let within = stands_left list m (flat m ps) (x ∷ more) stands in
    All-append (NodeTidy list) (flat m ps) (x ∷ more) (each_tidy list m ps within h.1)
    (All-cons (NodeTidy list) x more (λ other. roots_plain list m ps within (h.0 other)) (each_tidy list (m + suc (size ps)) f (stands_behind list m ps x more stands) h.2))

-- no part of a node of a file that is spelled is a list of statements, but of a clause
pub parts_plain : (tokens : List Lexeme) (text : List ℕ) (tree : FileTree) → Spelled tokens text tree → All (NodeTidy tree.nodes) tree.nodes
parts_plain tokens text tree spelling =
    subst (λ (t : FileTree). All (NodeTidy t.nodes) t.nodes) spelling.arena
    (each_tidy (flat 0 spelling.forest) 0 spelling.forest (stands_all (flat 0 spelling.forest)) (each_piece Clause 0 (pieces 0 (classes text tokens)) spelling.forest spelling.spelled))
