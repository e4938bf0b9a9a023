-- A text as gaps and lexemes in turn, and the tokens that it gives.
use Rattle.std.specs.Prelude.{◌≡◌, ℕ, ◌+◌, ◌<◌, ◌≤◌, Bool, true, false, ◌||◌, ◌==◌, List, [], ◌∷◌, ◌++◌, Option, Some, None, length, take, drop, if◌then◌else◌, ◌⊎◌, ◌&&◌, nat_lt, nat_eq, slice_index}
use Rattle.std.specs.List.{starts_with}
use Rattle.std.specs.Str.Lossy.{utf8_valid_len}
use Rattle.go_tree.specs.declared.token.Item.{Item}
use Rattle.go_tree.specs.declared.token.Item.TheVariants.{Space, Newline, Lexeme, Wrong}
use Rattle.go_tree.specs.declared.token.Piece.{Piece}
use Rattle.go_tree.specs.declared.token.Token.{Token}
use Rattle.go_tree.specs.declared.token.Why.{Why}
use Rattle.go_tree.specs.declared.token.Why.TheVariants.{NotUtf8, Nul, StrayMark}
use Rattle.go_tree.specs.declared.token.TokenKind.{TokenKind}
use Rattle.go_tree.specs.declared.token.TokenKind.TheVariants.{Name, Int, Float, Imag, Rune, Text, Keyword, Mark, Semi}
use Rattle.go_tree.specs.Lexeme.{item_of}

-- the piece is the longest front of the rest that is an item
pub record Begins (items : List ℕ → Option Item) (piece : Piece) (rest : List ℕ) : Type 0 where
  pub within : piece.size ≤ length rest
  pub is : items (take piece.size rest) ≡ Some piece.item
  pub longest : (n : ℕ) → piece.size < n → n ≤ length rest → items (take n rest) ≡ None

-- the item is a gap or a lexeme
abbrev pub IsSound : Item → Type 0
IsSound (Wrong why) = ⊥
IsSound Space = Unit {0}
IsSound Newline = Unit {0}
IsSound (Lexeme kind) = Unit {0}

-- the text is these pieces and then the rest, each piece a gap or a lexeme, and the longest that begins what is left
abbrev pub Cuts : (List ℕ → Option Item) → List Piece → List ℕ → List ℕ → Type 0
Cuts items [] text rest = text ≡ rest
Cuts items (piece ∷ pieces) text rest = Begins items piece text × IsSound piece.item × Cuts items pieces (drop piece.size text) rest

-- how many bytes the pieces have
abbrev pub size_of : List Piece → ℕ
size_of [] = 0
size_of (piece ∷ pieces) = piece.size + size_of pieces

-- whether a line whose last token is of this kind gets a semicolon
abbrev pub closes : TokenKind → Bool
closes Name = true
closes Int = true
closes Float = true
closes Imag = true
closes Rune = true
closes Text = true
-- break continue fallthrough return
closes (Keyword k) = k == 0 || k == 4 || k == 8 || k == 19
-- ) ++ -- ] }
closes (Mark m) = m == 10 || m == 14 || m == 18 || m == 39 || m == 46
closes Semi = false

-- the semicolon after the line's last token, where that ends at a place that wants one
abbrev pub semicolon : Option ℕ → List Token
semicolon None = []
semicolon (Some at) = record { kind = Semi; start = at; «end» = at } ∷ []

-- the tokens of an item that lies between two offsets; due is where the line so far wants a semicolon
abbrev pub item_tokens : Item → ℕ → ℕ → Option ℕ → List Token
item_tokens Space start stop due = []
item_tokens Newline start stop due = semicolon due
item_tokens (Lexeme kind) start stop due = record { kind = kind; start = start; «end» = stop } ∷ []
item_tokens (Wrong why) start stop due = []

-- where the line wants a semicolon after an item that ends at stop
abbrev pub due_after : Item → ℕ → Option ℕ → Option ℕ
due_after Space stop due = due
due_after Newline stop due = None
due_after (Lexeme kind) stop due = if closes kind then Some stop else None
due_after (Wrong why) stop due = due

-- the tokens of the pieces from an offset on
abbrev pub tokens_of : ℕ → Option ℕ → List Piece → List Token
tokens_of at due [] = semicolon due
tokens_of at due (piece ∷ pieces) = item_tokens piece.item at (at + piece.size) due ++ tokens_of (at + piece.size) (due_after piece.item (at + piece.size) due) pieces

-- the byte order mark
abbrev pub byte_order_mark : List ℕ
byte_order_mark = 239 ∷ 187 ∷ 191 ∷ []

-- what a whole-text test finds at an offset; valid is how many bytes are UTF-8
abbrev pub fault_at : List ℕ → ℕ → ℕ → Option Why
fault_at text valid at =
    if at == valid then Some NotUtf8
    else (if slice_index text at == 0 then Some Nul
    else (if nat_lt 0 at && starts_with nat_eq (drop at text) byte_order_mark then Some StrayMark else None))

-- the text passes the whole-text tests
abbrev pub Passes : List ℕ → Type 0
Passes text = (at : ℕ) → at < length text → fault_at text (utf8_valid_len text) at ≡ None

-- the least offset at which a whole-text test fails
pub record FailsAt (text : List ℕ) (offset : ℕ) (why : Why) : Type 0 where
  pub within : offset < length text
  pub fails : fault_at text (utf8_valid_len text) offset ≡ Some why
  pub least : (at : ℕ) → at < offset → fault_at text (utf8_valid_len text) at ≡ None

-- a byte order mark at the front is a gap
abbrev pub front_mark : List ℕ → ℕ
front_mark text = if starts_with nat_eq text byte_order_mark then 3 else 0

-- the text is gaps and lexemes in turn, and gives the tokens
pub record LexedBy (items : List ℕ → Option Item) (text : List ℕ) (tokens : List Token) : Type 0 where
  pub passes : Passes text
  pub pieces : List Piece
  pub cuts : Cuts items pieces (drop (front_mark text) text) []
  pub gives : tokens_of (front_mark text) None pieces ≡ tokens

-- gaps and lexemes end at the offset, where something else begins
pub record EndsAt (items : List ℕ → Option Item) (text : List ℕ) (offset : ℕ) (why : Why) : Type 0 where
  pub passes : Passes text
  pub pieces : List Piece
  pub rest : List ℕ
  pub cuts : Cuts items pieces (drop (front_mark text) text) rest
  pub size : ℕ
  pub wrong : Begins items (record { item = Wrong why; size = size }) rest
  pub at : offset ≡ front_mark text + size_of pieces

-- the text is refused at the least offset where a whole-text test fails, else where gaps and lexemes end
abbrev pub RefusedBy : (List ℕ → Option Item) → List ℕ → ℕ → Why → Type 0
RefusedBy items text offset why = FailsAt text offset why ⊎ EndsAt items text offset why

-- the whole language
abbrev pub Lexed : List ℕ → List Token → Type 0
Lexed = LexedBy item_of

abbrev pub LexRefused : List ℕ → ℕ → Why → Type 0
LexRefused = RefusedBy item_of
