-- A text has no more tokens than bytes, and one.
use Rattle.std.proofs.Common.{◌≡◌, ℕ, suc, ◌+◌, ◌<◌, ◌≤◌, Option, Some, None, List, [], ◌∷◌, ◌++◌, length, take, drop, refl, arith, ap, ◌∙◌, length-append}
use Rattle.std.proofs.lemmas.List.{length-drop}
use Rattle.go_tree.specs.declared.token.Item.{Item}
use Rattle.go_tree.specs.declared.token.Item.TheVariants.{Space, Newline, Lexeme, Wrong}
use Rattle.go_tree.specs.declared.token.Piece.{Piece}
use Rattle.go_tree.specs.declared.token.Token.{Token}
use Rattle.go_tree.specs.Lexeme.{item_of}
use Rattle.go_tree.specs.Lexed.{Begins, Cuts, size_of, semicolon, item_tokens, due_after, tokens_of, front_mark, Lexed}
use Rattle.go_lexeme.proofs.Items.{no_item}
use Rattle.go_scan.proofs.Cuts.{some_size}

semicolon_length : (due : Option ℕ) → length (semicolon due) ≤ 1
semicolon_length None = omega arith
semicolon_length (Some at) = omega arith

item_length : (item : Item) (start stop : ℕ) (due : Option ℕ) → length (item_tokens item start stop due) ≤ 1
item_length Space start stop due = omega arith
item_length Newline start stop due = semicolon_length due
item_length (Lexeme kind) start stop due = omega arith
item_length (Wrong why) start stop due = omega arith

pieces_length : (at : ℕ) (due : Option ℕ) (ps : List Piece) → length (tokens_of at due ps) ≤ length ps + 1
pieces_length at due [] = semicolon_length due
pieces_length at due (p ∷ ps) =
    let a = length-append (item_tokens p.item at (at + p.size) due) (tokens_of (at + p.size) (due_after p.item (at + p.size) due) ps) in
    let b = item_length p.item at (at + p.size) due in
    let c = pieces_length (at + p.size) (due_after p.item (at + p.size) due) ps in
    omega (arith, a, b, c)

-- each piece has a byte
cuts_length : (ps : List Piece) (text : List ℕ) → Cuts item_of ps text [] → length ps ≤ length text
cuts_length [] text c = omega arith
cuts_length (p ∷ ps) text c =
    let a = some_size item_of no_item p text c.0 in
    let b = c.0.within in
    let d = cuts_length ps (drop p.size text) c.2 in
    let e = length-drop p.size text in
    omega (arith, a, b, d, e)

pub tokens_length : (text : List ℕ) (tokens : List Token) → Lexed text tokens → length tokens ≤ length text + 1
tokens_length text tokens l =
    let a = ap length l.gives in
    let b = pieces_length (front_mark text) None l.pieces in
    let c = cuts_length l.pieces (drop (front_mark text) text) l.cuts in
    let d = length-drop (front_mark text) text in
    omega (arith, a, b, c, d)
