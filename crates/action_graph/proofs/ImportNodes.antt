-- The specifications of imports are the parts of the imports among the pieces of a file, and nothing else.
use Rattle.std.proofs.Common.{◌≡◌, ◌⊎◌, inl, inr, ℕ, zero, suc, ◌+◌, Bool, true, false, not, cond, ◌&&◌, List, [], ◌∷◌, ◌++◌, length, slice_get, Some, refl, sym, ap, ◌∙◌, subst, arith}
use Rattle.std.specs.List.{Contains}
use Rattle.std.proofs.lemmas.List.Elements.{Contains-append_left, Contains-append_right}
use Rattle.std.proofs.lemmas.Option.{same_Some, get_or_from_slice_get}
use Rattle.go_tree.specs.declared.grammar.Category.{Category}
use Rattle.go_tree.specs.declared.grammar.Category.TheVariants as c
use Rattle.go_tree.specs.declared.grammar.Ending.{Ending}
use Rattle.go_tree.specs.declared.grammar.Ending.TheVariants.{Is, Bare, Tail}
use Rattle.go_tree.specs.declared.grammar.Setting.{Setting}
use Rattle.go_tree.specs.declared.grammar.Setting.TheVariants as m
use Rattle.go_tree.specs.declared.grammar.Stage.{Stage}
use Rattle.go_tree.specs.declared.grammar.Stage.TheVariants.{Clause, Imports, Declarations}
use Rattle.go_tree.specs.declared.grammar.Symbol.{Symbol}
use Rattle.go_tree.specs.declared.grammar.Symbol.TheVariants.{Token, Part, Inline, Operand}
use Rattle.go_tree.specs.declared.token.Token.{Token as Lexeme}
use Rattle.go_tree.specs.declared.tree.FileTree.{FileTree}
use Rattle.go_tree.specs.declared.tree.Node.{Node}
use Rattle.go_tree.specs.declared.tree.NodeKind.{NodeKind}
use Rattle.go_tree.specs.declared.tree.NodeKind.TheVariants as k
use Rattle.go_tree.specs.Arena.{flat, roots, size, node_of, arena_of}
use Rattle.go_tree.specs.Classes.{classes}
use Rattle.go_tree.specs.Forest.{Forest, Empty, Grow, ◌⊕◌}
use Rattle.go_tree.specs.Head.{node_at, is_import as imports}
use Rattle.go_tree.specs.Inlines.{inlines}
use Rattle.go_tree.specs.Nodes.{nodes}
use Rattle.go_tree.specs.Operands.{prefixes, suffixes}
use Rattle.go_tree.specs.Pieces.{Spelled, SpellsPieces, pieces, after, wanted}
use Rattle.go_tree.specs.Rule.{Rule}
use Rattle.go_tree.specs.Spelling.{no_node}
use Rattle.go_tree.specs.Spells.{Spells, Closes, done, token, inline, node, prefix, suffix, is, bare, tail}
use Rattle.go_parse.proofs.Check.{all, all_at, both}
use Rattle.node_values.proofs.StandLemmas.{StandsAt, stands_right, stands_head, stands_all, size_flat}
use Rattle.bind.specs.Imports.{specs_in, piece_specs}
use Rattle.unit_read.specs.Imports.{is_import as is_spec}

-- ---- the grammar's rules

-- categories of imports and of their specifications
abbrev of_import : Category → Bool
of_import c.Import = true
of_import c.ImportTail = true
of_import c.ImportSpec = true
of_import _ = false

-- and those that make no node
abbrev lists_import : Category → Bool
lists_import c.TopPiece = true
lists_import c.ImportSpecs = true
lists_import c.MoreImportSpecs = true
lists_import _ = false

-- no import is among them
abbrev clean : List Symbol → Bool
clean [] = true
clean (Token t ∷ ss) = clean ss
clean (Part x ∷ ss) = not (of_import x) && clean ss
clean (Inline x ∷ ss) = not (lists_import x) && clean ss
clean (Operand p l ∷ ss) = clean ss

abbrev ends_clean : Ending → Bool
ends_clean (Is k) = not (is_spec k)
ends_clean Bare = true
ends_clean (Tail x) = not (of_import x)

abbrev clean_rule : Rule → Bool
clean_rule r = clean r.symbols && ends_clean r.ending

-- either side of a choice that is written as one test
abbrev unless : Bool → Bool → Bool
unless true b = true
unless false b = b

nodes_clean : (x : Category) → unless (of_import x) (all clean_rule (nodes x)) ≡ true
unfolding nodes
nodes_clean c.Clause = refl
nodes_clean _ = refl

inlines_clean : (x : Category) → unless (lists_import x) (all clean (inlines x)) ≡ true
unfolding inlines
inlines_clean c.ClausePiece = refl
inlines_clean _ = refl

prefixes_clean : (l : Setting) → all clean_rule (prefixes l) ≡ true
unfolding prefixes
prefixes_clean m.Free = refl
prefixes_clean m.Header = refl

suffixes_clean : (l : Setting) → all clean_rule (suffixes l) ≡ true
unfolding suffixes
suffixes_clean m.Free = refl
suffixes_clean m.Header = refl

-- tokens alone
abbrev leafless : List Symbol → Bool
leafless [] = true
leafless (Token t ∷ ss) = leafless ss
leafless (Part x ∷ ss) = false
leafless (Inline x ∷ ss) = false
leafless (Operand p l ∷ ss) = false

abbrev is_import_spec : Category → Bool
is_import_spec c.ImportSpec = true
is_import_spec _ = false

abbrev is_spec_list : Category → Bool
is_spec_list c.ImportSpecs = true
is_spec_list c.MoreImportSpecs = true
is_spec_list _ = false

-- specifications and tokens
abbrev flat_specs : List Symbol → Bool
flat_specs [] = true
flat_specs (Token t ∷ ss) = flat_specs ss
flat_specs (Part x ∷ ss) = is_import_spec x && flat_specs ss
flat_specs (Inline x ∷ ss) = is_spec_list x && flat_specs ss
flat_specs (Operand p l ∷ ss) = false

abbrev makes_node : Ending → Bool
makes_node (Is k) = true
makes_node Bare = false
makes_node (Tail x) = false

abbrev makes_import : Ending → Bool
makes_import (Is k) = imports k
makes_import Bare = false
makes_import (Tail x) = false

abbrev is_tail : Category → Bool
is_tail c.ImportTail = true
is_tail _ = false

abbrev goes_on : Ending → Bool
goes_on (Is k) = false
goes_on Bare = false
goes_on (Tail x) = is_tail x

abbrev spec_rule : Rule → Bool
spec_rule r = clean r.symbols && makes_node r.ending

abbrev tail_rule : Rule → Bool
tail_rule r = flat_specs r.symbols && makes_import r.ending

abbrev import_rule : Rule → Bool
import_rule r = leafless r.symbols && goes_on r.ending

spec_rules : (x : Category) → is_import_spec x ≡ true → all spec_rule (nodes x) ≡ true
unfolding nodes
spec_rules c.ImportSpec h = refl
spec_rules _ h = absurd cc

tail_rules : (x : Category) → is_tail x ≡ true → all tail_rule (nodes x) ≡ true
unfolding nodes
tail_rules c.ImportTail h = refl
tail_rules _ h = absurd cc

abbrev is_whole : Category → Bool
is_whole c.Import = true
is_whole _ = false

import_rules : (x : Category) → is_whole x ≡ true → all import_rule (nodes x) ≡ true
unfolding nodes
import_rules c.Import h = refl
import_rules _ h = absurd cc

spec_lists : (x : Category) → is_spec_list x ≡ true → all flat_specs (inlines x) ≡ true
unfolding inlines
spec_lists c.ImportSpecs h = refl
spec_lists c.MoreImportSpecs h = refl
spec_lists _ h = absurd cc

-- what a piece may have
abbrev top_part : Category → Bool
top_part x = unless (not (of_import x)) (is_whole x)

abbrev tops_only : List Symbol → Bool
tops_only [] = true
tops_only (Token t ∷ ss) = tops_only ss
tops_only (Part x ∷ ss) = top_part x && tops_only ss
tops_only (Inline x ∷ ss) = not (lists_import x) && tops_only ss
tops_only (Operand p l ∷ ss) = tops_only ss

abbrev is_top_piece : Category → Bool
is_top_piece c.TopPiece = true
is_top_piece _ = false

top_pieces : (x : Category) → is_top_piece x ≡ true → all tops_only (inlines x) ≡ true
unfolding inlines
top_pieces c.TopPiece h = refl
top_pieces _ h = absurd cc

-- ---- the trees that are spelled

-- no node of them is a specification
abbrev NoSpec : Forest → Type 0
NoSpec Empty = Prim.Unit {0}
NoSpec (Grow k a b ps f) = (is_spec k ≡ false) × NoSpec ps × NoSpec f

-- none but the top ones
abbrev Shallow : Forest → Type 0
Shallow Empty = Prim.Unit {0}
Shallow (Grow k a b ps f) = NoSpec ps × Shallow f

-- each top node is an import with its specifications, or has none
abbrev IsTop : NodeKind → Forest → Type 0
IsTop k ps = ((imports k ≡ true) × Shallow ps) ⊎ ((is_spec k ≡ false) × NoSpec ps)

abbrev Tops : Forest → Type 0
Tops Empty = Prim.Unit {0}
Tops (Grow k a b ps f) = IsTop k ps × Tops f

none_beside : (f g : Forest) → NoSpec f → NoSpec g → NoSpec (f ⊕ g)
none_beside Empty g one other = other
none_beside (Grow k a b ps f) g one other = (one.0, one.1, none_beside f g one.2 other)

shallow_beside : (f g : Forest) → Shallow f → Shallow g → Shallow (f ⊕ g)
shallow_beside Empty g one other = other
shallow_beside (Grow k a b ps f) g one other = (one.0, shallow_beside f g one.1 other)

tops_beside : (f g : Forest) → Tops f → Tops g → Tops (f ⊕ g)
tops_beside Empty g one other = other
tops_beside (Grow k a b ps f) g one other = (one.0, tops_beside f g one.1 other)

clean_tops : (f : Forest) → NoSpec f → Tops f
clean_tops Empty h = tt
clean_tops (Grow k a b ps f) h = (inr (h.0, h.1), clean_tops f h.2)

not_true : (b : Bool) → not b ≡ true → b ≡ false
not_true true h = absurd cc
not_true false h = refl

unless_not : (a b : Bool) → unless a b ≡ true → a ≡ false → b ≡ true
unless_not true b h e = absurd cc
unless_not false b h e = h

mutual
  clean_spelled : {n : ℕ} {ss : List Symbol} {f : Forest} {xs ys : List ℕ} → Spells n ss f xs ys → clean ss ≡ true → NoSpec f
  clean_spelled done h = tt
  clean_spelled (token a s) h = clean_spelled s h
  clean_spelled (inline {c = x} {ss = ss} {g = g} {f = f} r a m s t) h =
      let parts = both (not (lists_import x)) (clean ss) h in
      let lists = unless_not (lists_import x) (all clean (inlines x)) (inlines_clean x) (not_true (lists_import x) parts.0) in
      none_beside g f (clean_spelled s (all_at clean (inlines x) r lists a)) (clean_spelled t parts.1)
  clean_spelled (node {c = x} {ss = ss} {t = u} {f = f} e t) h =
      let parts = both (not (of_import x)) (clean ss) h in
      none_beside u f (clean_closed e parts.0 tt) (clean_spelled t parts.1)
  clean_spelled (prefix {l = l} {t = u} {f = f} r a low s e t) h =
      let is = both (clean r.symbols) (ends_clean r.ending) (all_at clean_rule (prefixes l) r (prefixes_clean l) a) in
      none_beside u f (clean_closed e is.1 (clean_spelled s is.0)) (clean_spelled t h)
  clean_spelled (suffix {l = l} {left = before} {parts = behind} {t = u} {f = f} r a low left s e t) h =
      let is = both (clean r.symbols) (ends_clean r.ending) (all_at clean_rule (suffixes l) r (suffixes_clean l) a) in
      none_beside u f (clean_closed e is.1 (none_beside before behind (clean_spelled left refl) (clean_spelled s is.0))) (clean_spelled t h)

  clean_closed : {n a : ℕ} {e : Ending} {b f : Forest} {xs ys : List ℕ} → Closes n e a b f xs ys → ends_clean e ≡ true → NoSpec b → NoSpec f
  clean_closed (is {k = k}) h parts = (not_true (is_spec k) h, parts, tt)
  clean_closed bare h parts = parts
  clean_closed (tail {c = x} {before = b} {parts = more} r a m s e) h parts =
      let rules = unless_not (of_import x) (all clean_rule (nodes x)) (nodes_clean x) (not_true (of_import x) h) in
      let is = both (clean r.symbols) (ends_clean r.ending) (all_at clean_rule (nodes x) r rules a) in
      clean_closed e is.1 (none_beside b more parts (clean_spelled s is.0))

leafless_spelled : {n : ℕ} {ss : List Symbol} {f : Forest} {xs ys : List ℕ} → Spells n ss f xs ys → leafless ss ≡ true → f ≡ Empty
leafless_spelled done h = refl
leafless_spelled (token a s) h = leafless_spelled s h
leafless_spelled (inline r a m s t) h = absurd cc
leafless_spelled (node e t) h = absurd cc
leafless_spelled (prefix r a low s e t) h = absurd cc
leafless_spelled (suffix r a low left s e t) h = absurd cc

-- what ends as one node over clean parts is shallow
node_closed : {n a : ℕ} {e : Ending} {b f : Forest} {xs ys : List ℕ} → Closes n e a b f xs ys → makes_node e ≡ true → NoSpec b → Shallow f
node_closed is h parts = (parts, tt)
node_closed bare h parts = absurd cc
node_closed (tail r a m s e) h parts = absurd cc

spec_closed : {n a : ℕ} {x : Category} {b f : Forest} {xs ys : List ℕ} → Closes n (Tail x) a b f xs ys → is_import_spec x ≡ true → NoSpec b → Shallow f
spec_closed (tail {c = x} {before = b} {parts = more} r a m s e) h parts =
    let is = both (clean r.symbols) (makes_node r.ending) (all_at spec_rule (nodes x) r (spec_rules x h) a) in
    node_closed e is.1 (none_beside b more parts (clean_spelled s is.0))

specs_spelled : {n : ℕ} {ss : List Symbol} {f : Forest} {xs ys : List ℕ} → Spells n ss f xs ys → flat_specs ss ≡ true → Shallow f
specs_spelled done h = tt
specs_spelled (token a s) h = specs_spelled s h
specs_spelled (inline {c = x} {ss = ss} {g = g} {f = f} r a m s t) h =
    let parts = both (is_spec_list x) (flat_specs ss) h in
    shallow_beside g f (specs_spelled s (all_at flat_specs (inlines x) r (spec_lists x parts.0) a)) (specs_spelled t parts.1)
specs_spelled (node {c = x} {ss = ss} {t = u} {f = f} e t) h =
    let parts = both (is_import_spec x) (flat_specs ss) h in
    shallow_beside u f (spec_closed e parts.0 tt) (specs_spelled t parts.1)
specs_spelled (prefix r a low s e t) h = absurd cc
specs_spelled (suffix r a low left s e t) h = absurd cc

import_closed : {n a : ℕ} {e : Ending} {b f : Forest} {xs ys : List ℕ} → Closes n e a b f xs ys → makes_import e ≡ true → Shallow b → Tops f
import_closed is h parts = (inl (h, parts), tt)
import_closed bare h parts = absurd cc
import_closed (tail r a m s e) h parts = absurd cc

tail_closed : {n a : ℕ} {e : Ending} {b f : Forest} {xs ys : List ℕ} → Closes n e a b f xs ys → goes_on e ≡ true → Shallow b → Tops f
tail_closed is h parts = absurd cc
tail_closed bare h parts = absurd cc
tail_closed (tail {c = x} {before = b} {parts = more} r a m s e) h parts =
    let is = both (flat_specs r.symbols) (makes_import r.ending) (all_at tail_rule (nodes x) r (tail_rules x h) a) in
    import_closed e is.1 (shallow_beside b more parts (specs_spelled s is.0))

whole_closed : {n a : ℕ} {x : Category} {f : Forest} {xs ys : List ℕ} → Closes n (Tail x) a Empty f xs ys → is_whole x ≡ true → Tops f
whole_closed (tail {c = x} {parts = more} r a m s e) h =
    let is = both (leafless r.symbols) (goes_on r.ending) (all_at import_rule (nodes x) r (import_rules x h) a) in
    tail_closed e is.1 (subst Shallow (sym (leafless_spelled s is.0)) tt)

part_closed : {n a : ℕ} (x : Category) {f : Forest} {xs ys : List ℕ} → Closes n (Tail x) a Empty f xs ys → top_part x ≡ true → Tops f
part_closed x {f} e h = by (of_import x) refl where
  by : (b : Bool) → of_import x ≡ b → Tops f
  by true e_is = whole_closed e (unless_not (not (of_import x)) (is_whole x) h (ap not e_is))
  by false e_is = clean_tops f (clean_closed e (ap not e_is) tt)

tops_spelled : {n : ℕ} {ss : List Symbol} {f : Forest} {xs ys : List ℕ} → Spells n ss f xs ys → tops_only ss ≡ true → Tops f
tops_spelled done h = tt
tops_spelled (token a s) h = tops_spelled s h
tops_spelled (inline {c = x} {ss = ss} {g = g} {f = f} r a m s t) h =
    let parts = both (not (lists_import x)) (tops_only ss) h in
    let lists = unless_not (lists_import x) (all clean (inlines x)) (inlines_clean x) (not_true (lists_import x) parts.0) in
    tops_beside g f (clean_tops g (clean_spelled s (all_at clean (inlines x) r lists a))) (tops_spelled t parts.1)
tops_spelled (node {c = x} {ss = ss} {t = u} {f = f} e t) h =
    let parts = both (top_part x) (tops_only ss) h in
    tops_beside u f (part_closed x e parts.0) (tops_spelled t parts.1)
tops_spelled (prefix {l = l} {t = u} {f = f} r a low s e t) h =
    let is = both (clean r.symbols) (ends_clean r.ending) (all_at clean_rule (prefixes l) r (prefixes_clean l) a) in
    tops_beside u f (clean_tops u (clean_closed e is.1 (clean_spelled s is.0))) (tops_spelled t h)
tops_spelled (suffix {l = l} {left = before} {parts = behind} {t = u} {f = f} r a low left s e t) h =
    let is = both (clean r.symbols) (ends_clean r.ending) (all_at clean_rule (suffixes l) r (suffixes_clean l) a) in
    tops_beside u f (clean_tops u (clean_closed e is.1 (none_beside before behind (clean_spelled left refl) (clean_spelled s is.0)))) (tops_spelled t h)

-- one category that makes no node: what a piece is
piece_spelled : {n : ℕ} {x : Category} {f : Forest} {xs ys : List ℕ} → Spells n (Inline x ∷ []) f xs ys → unless (not (lists_import x)) (is_top_piece x) ≡ true → Tops f
piece_spelled (inline {c = x} {g = g} {f = f} r a m s t) h = tops_beside g f (by (lists_import x) refl) (tops_spelled t refl) where
  by : (b : Bool) → lists_import x ≡ b → Tops g
  by true lists = tops_spelled s (all_at tops_only (inlines x) r (top_pieces x (unless_not (not (lists_import x)) (is_top_piece x) h (ap not lists))) a)
  by false lists = clean_tops g (clean_spelled s (all_at clean (inlines x) r (unless_not (lists_import x) (all clean (inlines x)) (inlines_clean x) lists) a))

stage_fine : (s : Stage) → unless (not (lists_import (wanted s))) (is_top_piece (wanted s)) ≡ true
stage_fine Clause = refl
stage_fine Imports = refl
stage_fine Declarations = refl

each_piece : (s : Stage) (at : ℕ) (ps : List (List ℕ)) (f : Forest) → SpellsPieces s at ps f → Tops f
each_piece s at [] f h = absurd h
each_piece s at (p ∷ []) f h = subst Tops (sym h.2) tt
each_piece s at (p ∷ (q ∷ ps)) f (g, h, first, more, joined) = subst Tops joined (tops_beside g h (piece_spelled first (stage_fine s)) (each_piece (after s p) (at + length p + 1) (q ∷ ps) h more))

-- ---- their nodes

-- what stands at a place of two lists stands in the one or in the other
split : {X : Type 0} (xs ys : List X) (i : ℕ) (x : X) → slice_get (xs ++ ys) i ≡ Some x → (slice_get xs i ≡ Some x) ⊎ ((j : ℕ) × (i ≡ length xs + j) × (slice_get ys j ≡ Some x))
split [] ys i x h = inr (i, (let e : i ≡ 0 + i = omega arith in e), h)
split (y ∷ xs) ys zero x h = inl h
split (y ∷ xs) ys (suc i) x h = elim (split xs ys i x h) [
  | inl e ↦ inl e
  | inr r ↦ inr (r.0, (let e = r.1 in omega (arith, e)), r.2)
]

none_there : (mm : ℕ) (f : Forest) (i : ℕ) (x : Node) → NoSpec f → slice_get (flat mm f) i ≡ Some x → is_spec x.kind ≡ true → ⊥
none_there mm Empty i x none at spec = absurd cc
none_there mm (Grow k a b ps f) i x none at spec = elim (split (flat mm ps) (node_of k a b (roots mm ps) ∷ flat (mm + suc (size ps)) f) i x at) [
  | inl e ↦ none_there mm ps i x none.1 e spec
  | inr r ↦ behind (λ j e. none_there (mm + suc (size ps)) f j x none.2 e spec) r.0 r.2
] where
  behind : ((j : ℕ) → slice_get (flat (mm + suc (size ps)) f) j ≡ Some x → ⊥) → (j : ℕ) → slice_get (node_of k a b (roots mm ps) ∷ flat (mm + suc (size ps)) f) j ≡ Some x → ⊥
  behind rest zero e = let same : k ≡ x.kind = ap (λ (y : Node). y.kind) (same_Some (node_of k a b (roots mm ps)) x e) in let never = none.0 in absurd (cc (same, never, spec))
  behind rest (suc j) e = rest j e

contains_head : {X : Type 0} (x : X) (xs : List X) → Contains (x ∷ xs) x
contains_head x xs = (0, omega arith, refl)

contains_tail : {X : Type 0} (x y : X) (xs : List X) → Contains xs y → Contains (x ∷ xs) y
contains_tail x y xs (j, low, e) = (suc j, omega arith, e)

-- a specification among shallow trees is one of their top nodes
shallow_there : (mm : ℕ) (f : Forest) (i : ℕ) (x : Node) → Shallow f → slice_get (flat mm f) i ≡ Some x → is_spec x.kind ≡ true → Contains (roots mm f) (mm + i)
shallow_there mm Empty i x low at spec = absurd cc
shallow_there mm (Grow k a b ps f) i x low at spec = elim (split (flat mm ps) (node_of k a b (roots mm ps) ∷ flat (mm + suc (size ps)) f) i x at) [
  | inl e ↦ absurd (none_there mm ps i x low.0 e spec)
  | inr r ↦ behind (λ j e. shallow_there (mm + suc (size ps)) f j x low.1 e spec) r.0 (r.1 ∙ ap (λ n. n + r.0) (size_flat mm ps)) r.2
] where
  behind : ((j : ℕ) → slice_get (flat (mm + suc (size ps)) f) j ≡ Some x → Contains (roots (mm + suc (size ps)) f) ((mm + suc (size ps)) + j)) → (j : ℕ) → i ≡ size ps + j → slice_get (node_of k a b (roots mm ps) ∷ flat (mm + suc (size ps)) f) j ≡ Some x → Contains ((mm + size ps) ∷ roots (mm + suc (size ps)) f) (mm + i)
  behind rest zero at_is e = let same : mm + size ps ≡ mm + i = omega (arith, at_is) in subst (λ n. Contains ((mm + size ps) ∷ roots (mm + suc (size ps)) f) n) same (contains_head (mm + size ps) (roots (mm + suc (size ps)) f))
  behind rest (suc j) at_is e =
      let same : (mm + suc (size ps)) + j ≡ mm + i = omega (arith, at_is) in
      contains_tail (mm + size ps) (mm + i) (roots (mm + suc (size ps)) f)
      (subst (λ n. Contains (roots (mm + suc (size ps)) f) n) same (rest j e))

no_import : (k : NodeKind) → imports k ≡ true → is_spec k ≡ false
no_import k.Import h = refl
no_import k.ImportGroup h = refl
no_import _ h = absurd cc

stands_here : (list : List Node) (m : ℕ) (ps : Forest) (x : Node) (more : List Node) → StandsAt list m (flat m ps ++ x ∷ more) → StandsAt list (m + size ps) (x ∷ more)
stands_here list m ps x more stands = stands_right list m (m + size ps) (flat m ps) (x ∷ more) (ap (λ n. m + n) (sym (size_flat m ps))) stands

stands_behind : (list : List Node) (m : ℕ) (ps : Forest) (x : Node) (more : List Node) → StandsAt list m (flat m ps ++ x ∷ more) → StandsAt list (m + suc (size ps)) more
stands_behind list m ps x more stands = stands_right list (m + size ps) (m + suc (size ps)) (x ∷ []) more (next m (size ps)) (stands_here list m ps x more stands) where
  next : (m n : ℕ) → m + suc n ≡ (m + n) + 1
  next m n = omega arith

module _ (tree : FileTree) where
  specs_there : (mm : ℕ) (f : Forest) (i : ℕ) (x : Node) → StandsAt tree.nodes mm (flat mm f) → Tops f → slice_get (flat mm f) i ≡ Some x → is_spec x.kind ≡ true → Contains (specs_in tree (roots mm f)) (mm + i)
  specs_there mm Empty i x stands tops at spec = absurd cc
  specs_there mm (Grow k a b ps f) i x stands tops at spec = elim (split (flat mm ps) (top ∷ more) i x at) [
    | inl e ↦ Contains-append_left (piece_specs tree (mm + size ps)) (specs_in tree (roots (mm + suc (size ps)) f)) (mm + i) (within e tops.0)
    | inr r ↦ Contains-append_right (piece_specs tree (mm + size ps)) (specs_in tree (roots (mm + suc (size ps)) f)) (mm + i) (behind (λ j e. specs_there (mm + suc (size ps)) f j x (stands_behind tree.nodes mm ps (node_of k a b (roots mm ps)) (flat (mm + suc (size ps)) f) stands) tops.1 e spec)
        r.0 (r.1 ∙ ap (λ n. n + r.0) (size_flat mm ps)) r.2 tops.0)
  ] where
    top : Node
    top = node_of k a b (roots mm ps)

    more : List Node
    more = flat (mm + suc (size ps)) f

    here : node_at tree (mm + size ps) ≡ node_of k a b (roots mm ps)
    here = get_or_from_slice_get tree.nodes (mm + size ps) (node_of k a b (roots mm ps)) no_node
        (stands_head tree.nodes (mm + size ps) (node_of k a b (roots mm ps)) (flat (mm + suc (size ps)) f) (stands_here tree.nodes mm ps (node_of k a b (roots mm ps)) (flat (mm + suc (size ps)) f) stands))

    parts : imports k ≡ true → piece_specs tree (mm + size ps) ≡ roots mm ps
    parts import = ap (λ (y : Node). cond (imports y.kind) y.parts []) here ∙ ap (λ (c : Bool). cond c (roots mm ps) []) import

    within : slice_get (flat mm ps) i ≡ Some x → IsTop k ps → Contains (piece_specs tree (mm + size ps)) (mm + i)
    within e (inl import) = subst (λ (l : List ℕ). Contains l (mm + i)) (sym (parts import.0)) (shallow_there mm ps i x import.1 e spec)
    within e (inr other) = absurd (none_there mm ps i x other.1 e spec)

    kind_plain : IsTop k ps → is_spec k ≡ false
    kind_plain (inl import) = no_import k import.0
    kind_plain (inr other) = other.0

    behind : ((j : ℕ) → slice_get (flat (mm + suc (size ps)) f) j ≡ Some x → Contains (specs_in tree (roots (mm + suc (size ps)) f)) ((mm + suc (size ps)) + j)) → (j : ℕ) → i ≡ size ps + j → slice_get (node_of k a b (roots mm ps) ∷ flat (mm + suc (size ps)) f) j ≡ Some x → IsTop k ps → Contains (specs_in tree (roots (mm + suc (size ps)) f)) (mm + i)
    behind rest zero at_is e kind =
        let same : k ≡ x.kind = ap (λ (y : Node). y.kind) (same_Some (node_of k a b (roots mm ps)) x e) in
        let never = kind_plain kind in absurd (cc (same, never, spec))
    behind rest (suc j) at_is e kind =
        let same : (mm + suc (size ps)) + j ≡ mm + i = omega (arith, at_is) in
        subst (λ n. Contains (specs_in tree (roots (mm + suc (size ps)) f)) n) same
        (rest j e)

-- each specification that is a node of a file that is spelled belongs to an import of it
pub specs_listed : (tokens : List Lexeme) (text : List ℕ) (tree : FileTree) → Spelled tokens text tree → (n : ℕ) (x : Node) → slice_get tree.nodes n ≡ Some x → is_spec x.kind ≡ true → Contains (specs_in tree tree.tops) n
specs_listed tokens text tree spelling n x =
    subst (λ (t : FileTree). slice_get t.nodes n ≡ Some x → is_spec x.kind ≡ true → Contains (specs_in t t.tops) n) spelling.arena (λ at spec.
    let whole : FileTree = arena_of tokens spelling.forest in
    let there = specs_there whole 0 spelling.forest n x (stands_all (flat 0 spelling.forest)) (each_piece Clause 0 (pieces 0 (classes text tokens)) spelling.forest spelling.spelled) at spec in
    let same : 0 + n ≡ n = omega arith in
    subst (λ i. Contains (specs_in whole (roots 0 spelling.forest)) i) same there)
