-- The places that a file's verdict and head tell lie in the file, at its end at most.
use Rattle.std.proofs.Common.{◌≡◌, ℕ, ◌+◌, ◌-◌, ◌<◌, ◌≤◌, Bool, true, false, cond, nat_lt, List, [], ◌∷◌, ◌++◌, Option, length, drop, get_or, slice_get, map, refl, ap, ◌∙◌, sym, subst, inl, inr, arith, zero, suc}
use Rattle.std.specs.List.{AllByRecursion}
use Rattle.std.proofs.lemmas.Bool.{cases_lt}
use Rattle.std.proofs.lemmas.Bool.Decides.{nat_tests}
use Rattle.std.proofs.lemmas.List.{length-drop}
use Rattle.std.proofs.lemmas.Option.{slice_get-get_or}
use Rattle.go_tree.specs.declared.head.ImportLine.{ImportLine}
use Rattle.go_tree.specs.declared.token.Item.{Item}
use Rattle.go_tree.specs.declared.token.Piece.{Piece}
use Rattle.go_tree.specs.declared.token.Token.{Token}
use Rattle.go_tree.specs.declared.token.Why.{Why}
use Rattle.go_tree.specs.declared.tree.FileTree.{FileTree}
use Rattle.go_tree.specs.Head.{head_of, import_line, imports_of, is_import, node_at, piece_imports, token_at}
use Rattle.go_tree.specs.Head as head
use Rattle.go_tree.specs.Lexed.{Cuts, Lexed, LexRefused, front_mark, size_of}
use Rattle.go_tree.specs.Lexeme.{item_of}
use Rattle.go_scan.proofs.TokenLaws.{mark_within, tokens_lie}
use Rattle.parse_file.specs.Verdict.{IsFoundAt, IsParsed, IsVerdict, no_token, offset_at}
use Rattle.go_tree.specs.Pieces.{Finding}

-- pieces reach no further than the text that they are cut from
cuts-size : (items : List ℕ → Option Item) (pieces : List Piece) (text rest : List ℕ) → Cuts items pieces text rest → size_of pieces ≤ length text
cuts-size items [] text rest cuts = omega arith
cuts-size items (piece ∷ pieces) text rest cuts =
    let within : piece.size ≤ length text = cuts.0.within in
    let long : length (drop piece.size text) ≡ length text - piece.size = length-drop piece.size text in
    let more : size_of pieces ≤ length (drop piece.size text) = cuts-size items pieces (drop piece.size text) rest cuts.2 in
    omega (arith, within, long, more)

-- where the scanner refuses a text
pub refused-low : (text : List ℕ) (offset : ℕ) (why : Why) → LexRefused text offset why → offset ≤ length text
refused-low text offset why refused = elim refused [
  | inl fails ↦ (let within : offset < length text = fails.within in omega (arith, within))
  | inr ends ↦ (
      let at : offset ≡ front_mark text + size_of ends.pieces = ends.at in
      let mark : front_mark text ≤ length text = mark_within text in
      let long : length (drop (front_mark text) text) ≡ length text - front_mark text = length-drop (front_mark text) text in
      let size : size_of ends.pieces ≤ length (drop (front_mark text) text) = cuts-size item_of ends.pieces (drop (front_mark text) text) ends.rest ends.cuts in
      omega (arith, at, mark, long, size))
]

less : (m n : ℕ) → nat_lt m n ≡ true → m < n
less m n h = grind (arith, nat_tests)

-- a token of a text, or the end of the text, begins within it
pub token-low : (text : List ℕ) (tokens : List Token) (at : ℕ) → Lexed text tokens → offset_at tokens at (length text) ≤ length text
token-low text tokens at lexed = by (nat_lt at (length tokens)) refl
  where
    by : (b : Bool) → nat_lt at (length tokens) ≡ b → cond b (get_or tokens at no_token).start (length text) ≤ length text
    by false h = omega arith
    by true h =
        let lie = tokens_lie item_of text tokens lexed at (get_or tokens at no_token) (slice_get-get_or tokens at no_token (less at (length tokens) h)) in
        let up = lie.0 in
        let within = lie.1 in
        omega (arith, up, within)

-- where the parser refuses a text
pub found-low : (text : List ℕ) (offset : ℕ) (finding : ℕ → Finding) → IsFoundAt text offset finding → offset ≤ length text
found-low text offset finding found = subst (λ n. n ≤ length text) found.place (token-low text found.tokens found.at found.lexed)

-- a token of a parsed file begins within it
pub begins-low : (text : List ℕ) (tree : FileTree) (n : ℕ) → IsParsed text tree → (token_at tree n).start ≤ length text
begins-low text tree n parsed = elim (cases_lt n (length tree.tokens)) [
  | inl l ↦ (
      let its = ap (λ (x : FileTree). x.tokens) parsed.spelled.arena in
      let here = slice_get-get_or tree.tokens n head.no_token l in
      let lie = tokens_lie item_of text parsed.tokens parsed.lexed n (token_at tree n) (ap (λ (ts : List Token). slice_get ts n) its ∙ here) in
      let up = lie.0 in
      let within = lie.1 in
      omega (arith, up, within))
  | inr l ↦ subst (λ (t : Token). t.start ≤ length text) (sym (past tree.tokens n l)) (omega arith)
]
  where
    past : (ts : List Token) (k : ℕ) → length ts ≤ k → get_or ts k head.no_token ≡ head.no_token
    past [] k l = refl
    past (t ∷ ts) zero l = absurd (let m = l in omega (arith, m))
    past (t ∷ ts) (suc k) l = past ts k (omega (arith, l))

-- the name of its package clause stands in it
pub name-low : (text : List ℕ) (tree : FileTree) → IsParsed text tree → (head_of tree text).name_at ≤ length text
name-low text tree parsed = begins-low text tree (node_at tree (get_or (node_at tree (get_or tree.tops 0 0)).parts 0 0)).first parsed

-- and so does each of its imports
abbrev pub ImportLow : List ℕ → ImportLine → Type 0
ImportLow text line = line.at ≤ length text

lines-low : (text : List ℕ) (tree : FileTree) (parts : List ℕ) → IsParsed text tree → AllByRecursion (ImportLow text) (map (import_line tree text) parts)
lines-low text tree [] parsed = tt
lines-low text tree (n ∷ ns) parsed = (begins-low text tree (node_at tree n).first parsed, lines-low text tree ns parsed)

piece-low : (text : List ℕ) (tree : FileTree) (top : ℕ) → IsParsed text tree → AllByRecursion (ImportLow text) (piece_imports tree text top)
piece-low text tree top parsed = by (is_import (node_at tree top).kind)
  where
    by : (b : Bool) → AllByRecursion (ImportLow text) (cond b (map (import_line tree text) (node_at tree top).parts) [])
    by true = lines-low text tree (node_at tree top).parts parsed
    by false = tt

joined-low : (text : List ℕ) (xs ys : List ImportLine) → AllByRecursion (ImportLow text) xs → AllByRecursion (ImportLow text) ys → AllByRecursion (ImportLow text) (xs ++ ys)
joined-low text [] ys a b = b
joined-low text (x ∷ xs) ys a b = (a.0, joined-low text xs ys a.1 b)

pub imports-low : (text : List ℕ) (tree : FileTree) (tops : List ℕ) → IsParsed text tree → AllByRecursion (ImportLow text) (imports_of tree text tops)
imports-low text tree [] parsed = tt
imports-low text tree (t ∷ ts) parsed = joined-low text (piece_imports tree text t) (imports_of tree text ts) (piece-low text tree t parsed) (imports-low text tree ts parsed)
