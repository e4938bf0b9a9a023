-- A spelled file has at most three nodes for each of its tokens.
use Rattle.std.proofs.Common.{◌≡◌, ℕ, suc, ◌+◌, ◌*◌, ◌≤◌, Bool, true, false, cond, ◌&&◌, ◌||◌, ◌-◌, List, [], ◌∷◌, length, length-append, refl, sym, ap, ◌∙◌, arith}
use Rattle.std.specs.Prelude.{◌==◌}
use Rattle.std.proofs.lemmas.List.{length-map}
use Rattle.go_tree.specs.declared.grammar.Category.{Category}
use Rattle.go_tree.specs.declared.grammar.Ending.{Ending}
use Rattle.go_tree.specs.declared.grammar.Stage.{Stage}
use Rattle.go_tree.specs.declared.grammar.Stage.TheVariants.{Clause, Imports, Declarations}
use Rattle.go_tree.specs.declared.grammar.Symbol.{Symbol}
use Rattle.go_tree.specs.declared.token.Token.{Token}
use Rattle.go_tree.specs.declared.tree.FileTree.{FileTree}
use Rattle.go_tree.specs.Arena.{flat, node_of, roots, size}
use Rattle.go_tree.specs.Classes.{classes, class_in}
use Rattle.go_tree.specs.Forest.{Forest, Empty, Grow, ◌⊕◌}
use Rattle.go_tree.specs.Pieces.{Spelled, SpellsPieces, after, deeper, onto, pieces, wanted}
use Rattle.go_tree.specs.Spells.{Spells, Closes, done, token, inline, node, prefix, suffix, is, bare, tail}
use Rattle.tree_report.proofs.NodeCosts.{weight, tokens_in, end_cost, inline_cost, node_pays, inline_pays, prefix_pays, suffix_pays}

size_append : (f g : Forest) → size (f ⊕ g) ≡ size f + size g
size_append Empty g = omega arith
size_append (Grow k a b ps f) g = let e = size_append f g in omega (arith, e)

-- ---- one symbol more, in numbers: of nodes (whole), of classes that are left (x, y, z), of tokens asked for (t) and of costs (w)

token_step : (s x y t w : ℕ) → s + 3 * y + 3 * t ≤ 3 * x + w → s + 3 * y + 3 * suc t ≤ 3 * suc x + w
token_step s x y t w low = omega (arith, low)

inline_step : (whole g s x y z t w tokens cost most : ℕ) → whole ≡ g + s → g + 3 * y + 3 * tokens ≤ 3 * x + cost → cost ≤ 3 * tokens + most → s + 3 * z + 3 * t ≤ 3 * y + w → whole + 3 * z + 3 * t ≤ 3 * x + (most + w)
inline_step whole g s x y z t w tokens cost most all first pays rest = omega (arith, all, first, pays, rest)

node_step : (whole u s x y z t w most : ℕ) → whole ≡ u + s → u + 3 * y ≤ 0 + 3 * x + most → s + 3 * z + 3 * t ≤ 3 * y + w → whole + 3 * z + 3 * t ≤ 3 * x + (most + w)
node_step whole u s x y z t w most all first rest = omega (arith, all, first, rest)

prefix_step : (whole p u s x v y z t w tokens cost stop : ℕ) → whole ≡ u + s → p + 3 * v + 3 * tokens ≤ 3 * x + cost → u + 3 * y ≤ p + 3 * v + stop → cost + stop ≤ 3 * tokens + 1 → s + 3 * z + 3 * t ≤ 3 * y + w
    → whole + 3 * z + 3 * t ≤ 3 * x + suc w
prefix_step whole p u s x v y z t w tokens cost stop all first closed pays rest = omega (arith, all, first, closed, pays, rest)

suffix_step : (whole l p lp u s x y v z q t w tokens cost stop : ℕ) → whole ≡ u + s → lp ≡ l + p → l + 3 * y + 3 * 0 ≤ 3 * x + suc 0 → p + 3 * v + 3 * tokens ≤ 3 * y + cost → u + 3 * z ≤ lp + 3 * v + stop
    → cost + stop ≤ 3 * tokens + 0 → s + 3 * q + 3 * t ≤ 3 * z + w → whole + 3 * q + 3 * t ≤ 3 * x + suc w
suffix_step whole l p lp u s x y v z q t w tokens cost stop all both left first closed pays rest = omega (arith, all, both, left, first, closed, pays, rest)

tail_step : (b p bp u x y z tokens cost stop most : ℕ) → bp ≡ b + p → p + 3 * y + 3 * tokens ≤ 3 * x + cost → u + 3 * z ≤ bp + 3 * y + stop → cost + stop ≤ 3 * tokens + most → u + 3 * z ≤ b + 3 * x + most
tail_step b p bp u x y z tokens cost stop most both first closed pays = omega (arith, both, first, closed, pays)

mutual
  -- What symbols spell has at most three nodes for each token beyond those that they ask for, and what they cost.
  spelled : {n : ℕ} {ss : List Symbol} {f : Forest} {xs ys : List ℕ} → Spells n ss f xs ys → size f + 3 * length ys + 3 * tokens_in ss ≤ 3 * length xs + weight ss
  spelled (done {xs = xs}) = omega arith
  spelled (token {ss = ss} {f = f} {xs = xs} {ys = ys} a s) = token_step (size f) (length xs) (length ys) (tokens_in ss) (weight ss) (spelled s)
  spelled (inline {c = x} {ss = ss} {g = g} {f = f} {xs = xs} {ys = ys} {zs = zs} r a m s t) =
      inline_step (size (g ⊕ f)) (size g) (size f) (length xs) (length ys) (length zs) (tokens_in ss) (weight ss) (tokens_in r) (weight r) (inline_cost x) (size_append g f) (spelled s) (inline_pays x r a) (spelled t)
  spelled (node {ss = ss} {t = u} {f = f} {xs = xs} {ys = ys} {zs = zs} e t) =
      node_step (size (u ⊕ f)) (size u) (size f) (length xs) (length ys) (length zs) (tokens_in ss) (weight ss) _ (size_append u f) (closed e) (spelled t)
  spelled (prefix {l = l} {ss = ss} {parts = parts} {t = u} {f = f} {xs = xs} {ws = ws} {ys = ys} {zs = zs} r a low s e t) =
      prefix_step (size (u ⊕ f)) (size parts) (size u) (size f) (length xs) (length ws) (length ys) (length zs) (tokens_in ss) (weight ss) (tokens_in r.symbols) (weight r.symbols) (end_cost r.ending)
      (size_append u f) (spelled s) (closed e) (prefix_pays l r a) (spelled t)
  spelled (suffix {l = l} {ss = ss} {left = left} {parts = parts} {t = u} {f = f} {xs = xs} {ys = ys} {vs = vs} {zs = zs} {ws = ws} r a low first s e t) =
      suffix_step (size (u ⊕ f)) (size left) (size parts) (size (left ⊕ parts)) (size u) (size f) (length xs) (length ys) (length vs) (length zs) (length ws) (tokens_in ss) (weight ss)
      (tokens_in r.symbols) (weight r.symbols) (end_cost r.ending) (size_append u f) (size_append left parts) (spelled first) (spelled s) (closed e) (suffix_pays l r a) (spelled t)

  closed : {n a : ℕ} {e : Ending} {b f : Forest} {xs ys : List ℕ} → Closes n e a b f xs ys → size f + 3 * length ys ≤ size b + 3 * length xs + end_cost e
  closed is = omega arith
  closed bare = omega arith
  closed (tail {c = x} {before = b} {parts = parts} {t = u} {xs = xs} {ys = ys} {zs = zs} r a m s e) =
      tail_step (size b) (size parts) (size (b ⊕ parts)) (size u) (length xs) (length ys) (length zs) (tokens_in r.symbols) (weight r.symbols) (end_cost r.ending) _ (size_append b parts) (spelled s) (closed e) (node_pays x r a)

-- ---- pieces

abbrev total : List (List ℕ) → ℕ
total [] = 0
total (p ∷ ps) = length p + total ps

wanted_free : (s : Stage) → inline_cost (wanted s) ≡ 0
wanted_free Clause = refl
wanted_free Imports = refl
wanted_free Declarations = refl

piece_step : (whole g h p ps cost : ℕ) → whole ≡ g + h → g + 3 * 0 + 3 * 0 ≤ 3 * p + (cost + 0) → cost ≡ 0 → h ≤ 3 * ps → whole ≤ 3 * (p + ps)
piece_step whole g h p ps cost all first free rest = omega (arith, all, first, free, rest)

pieces_size : (s : Stage) (at : ℕ) (ps : List (List ℕ)) (f : Forest) → SpellsPieces s at ps f → size f ≤ 3 * total ps
pieces_size s at [] f h = absurd h
pieces_size s at (p ∷ []) f h = let e : size f ≡ 0 = ap size h.2 in omega (arith, e)
pieces_size s at (p ∷ (q ∷ ps)) f (g, h, first, rest, both) =
    piece_step (size f) (size g) (size h) (length p) (total (q ∷ ps)) (inline_cost (wanted s)) (ap size (sym both) ∙ size_append g h) (spelled first) (wanted_free s) (pieces_size (after s p) (at + length p + 1) (q ∷ ps) h rest)

onto_total : (c : ℕ) (ps : List (List ℕ)) → total (onto c ps) ≡ suc (total ps)
onto_total c [] = refl
onto_total c (p ∷ ps) = omega arith

pieces_total : (d : ℕ) (cs : List ℕ) → total (pieces d cs) ≤ length cs
pieces_total d [] = omega arith
pieces_total d (c ∷ cs) = by (c == 31 && d == 0) (pieces_total 0 cs) (pieces_total (deeper d c) cs)
  where
    by : (b : Bool) → total (pieces 0 cs) ≤ length cs → total (pieces (deeper d c) cs) ≤ length cs → total (cond b ([] ∷ pieces 0 cs) (onto c (pieces (deeper d c) cs))) ≤ suc (length cs)
    by true low high = omega (arith, low)
    by false low high = let e = onto_total c (pieces (deeper d c) cs) in omega (arith, high, e)

-- ---- the file

flat_length : (m : ℕ) (f : Forest) → length (flat m f) ≡ size f
flat_length m Empty = refl
flat_length m (Grow k a b ps f) =
    let e = length-append (flat m ps) (node_of k a b (roots m ps) ∷ flat (m + suc (size ps)) f) in
    let parts = flat_length m ps in
    let rest = flat_length (m + suc (size ps)) f in
    omega (arith, e, parts, rest)

pub nodes_few : (tokens : List Token) (text : List ℕ) (t : FileTree) → Spelled tokens text t → length t.nodes ≤ 3 * length tokens
nodes_few tokens text t spelling =
    let nodes : length t.nodes ≡ size spelling.forest = ap (λ (x : FileTree). length x.nodes) (sym spelling.arena) ∙ flat_length 0 spelling.forest in
    let low = pieces_size Clause 0 (pieces 0 (classes text tokens)) spelling.forest spelling.spelled in
    let sum = pieces_total 0 (classes text tokens) in
    let count : length (classes text tokens) ≡ length tokens = length-map tokens (class_in text) in
    omega (arith, nodes, low, sum, count)
