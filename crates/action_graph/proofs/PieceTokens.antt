-- Each node of a file has tokens, the first of them no semicolon; but a list of statements may have none, or begin with one.
use Rattle.std.proofs.Common.{◌≡◌, ℕ, suc, ◌+◌, ◌-◌, ◌≤◌, Bool, true, false, cond, ◌&&◌, List, [], ◌∷◌, length, map, slice_get, Some, refl, sym, ap, ◌∙◌, subst, arith}
use Rattle.std.specs.Prelude.{◌==◌}
use Rattle.std.specs.List.{All}
use Rattle.std.proofs.lemmas.List.Elements.{All-nil, All-cons, All-append}
use Rattle.go_tree.specs.declared.grammar.Stage.{Stage}
use Rattle.go_tree.specs.declared.grammar.Stage.TheVariants.{Clause}
use Rattle.go_tree.specs.declared.token.Token.{Token}
use Rattle.go_tree.specs.declared.tree.FileTree.{FileTree}
use Rattle.go_tree.specs.declared.tree.Node.{Node}
use Rattle.go_tree.specs.Arena.{flat, roots, size, node_of}
use Rattle.go_tree.specs.Classes.{class_in, classes}
use Rattle.go_tree.specs.Forest.{Forest, Empty, Grow}
use Rattle.go_tree.specs.Pieces.{Spelled, SpellsPieces, pieces, deeper, onto, after}
use Rattle.action_graph.proofs.NodeTokens.{HasTokens, Each, Read, spelled, each_beside}

module _ (At : ℕ → ℕ → Type 0) (top : ℕ) where
  -- classes that are read from a place on
  abbrev From : ℕ → List ℕ → Type 0
  From at [] = at ≤ top
  From at (x ∷ xs) = At x at × From (suc at) xs

  from_low : (at : ℕ) (xs : List ℕ) → From at xs → at ≤ top
  from_low at [] h = h
  from_low at (x ∷ xs) h = let low = from_low (suc at) xs h.1 in omega (arith, low)

  read_from : (at : ℕ) (xs : List ℕ) → From at xs → Read At top (at + length xs) xs
  read_from at [] h = omega (arith, h)
  read_from at (x ∷ xs) h =
      let here : at ≡ at + suc (length xs) - suc (length xs) = omega arith in
      let more : suc at + length xs ≡ at + suc (length xs) = omega arith in
      (subst (At x) here h.0, subst (λ n. Read At top n xs) more (read_from (suc at) xs h.1))

  -- each piece, in turn
  abbrev Pieced : ℕ → List (List ℕ) → Type 0
  Pieced at [] = Prim.Unit {0}
  Pieced at (p ∷ ps) = From at p × Pieced (at + length p + 1) ps

  onto_pieced : (at x : ℕ) (ps : List (List ℕ)) → At x at → suc at ≤ top → Pieced (suc at) ps → Pieced at (onto x ps)
  onto_pieced at x [] here low h = ((here, low), tt)
  onto_pieced at x (p ∷ ps) here low h = let same : suc at + length p + 1 ≡ at + suc (length p) + 1 = omega arith in ((here, h.0), subst (λ n. Pieced n ps) same h.1)

  pieced : (d at : ℕ) (cs : List ℕ) → From at cs → Pieced at (pieces d cs)
  pieced d at [] h = (h, tt)
  pieced d at (x ∷ cs) h = by (x == 31 && d == 0) (pieced 0 (suc at) cs h.1) (pieced (deeper d x) (suc at) cs h.1) where
    by : (b : Bool) → Pieced (suc at) (pieces 0 cs) → Pieced (suc at) (pieces (deeper d x) cs) → Pieced at (cond b ([] ∷ pieces 0 cs) (onto x (pieces (deeper d x) cs)))
    by true apart on =
        let low = from_low (suc at) cs h.1 in
        let next : suc at ≡ at + 0 + 1 = omega arith in
        (omega (arith, low), subst (λ n. Pieced n (pieces 0 cs)) next apart)
    by false apart on = onto_pieced at x (pieces (deeper d x) cs) h.0 (from_low (suc at) cs h.1) on

  each_piece : (s : Stage) (at : ℕ) (ps : List (List ℕ)) (f : Forest) → SpellsPieces s at ps f → Pieced at ps → Each At top f
  each_piece s at [] f h read = absurd h
  each_piece s at (p ∷ []) f h read = subst (Each At top) (sym h.2) tt
  each_piece s at (p ∷ (q ∷ ps)) f (g, h, first, more, both) read =
      subst (Each At top) both
      (each_beside At top g h (spelled At top first refl (omega arith) (read_from at p read.0)).0 (each_piece (after s p) (at + length p + 1) (q ∷ ps) h more read.1))

  -- what holds of trees holds of their nodes
  abbrev pub NodeHas : Node → Type 0
  NodeHas node = HasTokens At top node.kind node.first node.last

  each_node : (m : ℕ) (f : Forest) → Each At top f → All NodeHas (flat m f)
  each_node m Empty h = All-nil NodeHas
  each_node m (Grow k a b ps f) h =
      All-append NodeHas (flat m ps) (node_of k a b (roots m ps) ∷ flat (m + suc (size ps)) f) (each_node m ps h.1)
      (All-cons NodeHas (node_of k a b (roots m ps)) (flat (m + suc (size ps)) f) h.0 (each_node (m + suc (size ps)) f h.2))

-- a token of this number is there, of this class
abbrev pub IsAt : List ℕ → List Token → ℕ → ℕ → Type 0
IsAt text tokens x i = (t : Token) × (slice_get tokens i ≡ Some t) × (class_in text t ≡ x)

from_classes : (text : List ℕ) (tokens rest : List Token) (at : ℕ) → at + length rest ≡ length tokens → ((i : ℕ) → slice_get tokens (at + i) ≡ slice_get rest i) → From (IsAt text tokens) (length tokens) at (map (class_in text) rest)
from_classes text tokens [] at long same = omega (arith, long)
from_classes text tokens (t ∷ rest) at long same =
    let here : at ≡ at + 0 = omega arith in
    let more : suc at + length rest ≡ length tokens = omega (arith, long) in
    ((t, ap (slice_get tokens) here ∙ same 0, refl), from_classes text tokens rest (suc at) more (λ i. let next : suc at + i ≡ at + suc i = omega arith in ap (slice_get tokens) next ∙ same (suc i)))

-- each node of a file that is spelled has tokens of it
pub nodes_have : (tokens : List Token) (text : List ℕ) (tree : FileTree) → Spelled tokens text tree → All (NodeHas (IsAt text tokens) (length tokens)) tree.nodes
nodes_have tokens text tree spelling =
    let zeroth : (i : ℕ) → slice_get tokens (0 + i) ≡ slice_get tokens i = λ i. let same : 0 + i ≡ i = omega arith in ap (slice_get tokens) same in
    let read = from_classes text tokens tokens 0 (omega arith) zeroth in
    let each = each_piece (IsAt text tokens) (length tokens) Clause 0 (pieces 0 (classes text tokens)) spelling.forest spelling.spelled (pieced (IsAt text tokens) (length tokens) 0 0 (classes text tokens) read) in
    subst (λ (t : FileTree). All (NodeHas (IsAt text tokens) (length tokens)) t.nodes) spelling.arena (each_node (IsAt text tokens) (length tokens) 0 spelling.forest each)
