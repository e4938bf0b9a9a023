-- Go 1.17, "Lexical elements": which bytes are a gap or a lexeme.
use Rattle.std.specs.Prelude.{ℕ, Bool, true, false, ◌||◌, ◌==◌, List, [], ◌∷◌, Option, Some, None, nat_le, if◌then◌else◌, codes, bytes_eq, not, length, slice_index, drop}
use Rattle.std.specs.List.{list_any, position_from, fold}
use Rattle.std.specs.Option.{option_map, option_map_or, option_or}
use Rattle.std.specs.Char.{is_ascii_digit, is_ascii_alphabetic}
use Rattle.go_tree.specs.Word.{is_word}
use Rattle.std.specs.Str.{byte}
use Rattle.go_tree.specs.Escapes.{double_quote, single_quote, backslash, inner, escapes_well, is_rune_body}
use Rattle.go_tree.specs.Numbers.{is_decimal_mark, is_hex_mark, number_kind}
use Rattle.go_tree.specs.declared.class.Class.{Class}
use Rattle.go_tree.specs.declared.class.Class.TheVariants.{Word, Number, Fraction, LineComment, BlockComment, Blank, LineEnd, RawText, QuotedText, QuotedRune, Operator}
use Rattle.go_tree.specs.declared.class.State.{State}
use Rattle.go_tree.specs.declared.class.State.TheVariants.{Open, Taken, Shut, Zero, Hex, Sign, HexSign, Dead}
use Rattle.go_tree.specs.declared.token.Item.{Item}
use Rattle.go_tree.specs.declared.token.Item.TheVariants.{Space, Newline, Lexeme, Wrong}
use Rattle.go_tree.specs.declared.token.TokenKind.{TokenKind}
use Rattle.go_tree.specs.declared.token.TokenKind.TheVariants.{Name, Rune, Text, Keyword, Mark, Semi}
use Rattle.go_tree.specs.declared.token.Why.TheVariants.{BadLexeme, Unclosed}

-- the 25 keywords, in byte order
abbrev pub keywords : List (List ℕ)
keywords = codes "break" ∷ codes "case" ∷ codes "chan" ∷ codes "const" ∷ codes "continue" ∷ codes "default" ∷ codes "defer" ∷ codes "else" ∷ codes "fallthrough" ∷ codes "for" ∷ codes "func" ∷ codes "go" ∷ codes "goto" ∷ codes "if" ∷ codes "import" ∷ codes "interface" ∷ codes "map" ∷ codes "package" ∷ codes "range" ∷ codes "return" ∷ codes "select" ∷ codes "struct" ∷ codes "switch" ∷ codes "type" ∷ codes "var" ∷ []

-- the 47 operators and punctuation marks, in byte order
abbrev pub marks : List (List ℕ)
marks = codes "!" ∷ codes "!=" ∷ codes "%" ∷ codes "%=" ∷ codes "&" ∷ codes "&&" ∷ codes "&=" ∷ codes "&^" ∷ codes "&^=" ∷ codes "(" ∷ codes ")" ∷ codes "*" ∷ codes "*=" ∷ codes "+" ∷ codes "++" ∷ codes "+=" ∷ codes "," ∷ codes "-" ∷ codes "--" ∷ codes "-=" ∷ codes "." ∷ codes "..." ∷ codes "/" ∷ codes "/=" ∷ codes ":" ∷ codes ":=" ∷ codes ";" ∷ codes "<" ∷ codes "<-" ∷ codes "<<" ∷ codes "<<=" ∷ codes "<=" ∷ codes "=" ∷ codes "==" ∷ codes ">" ∷ codes ">=" ∷ codes ">>" ∷ codes ">>=" ∷ codes "[" ∷ codes "]" ∷ codes "^" ∷ codes "^=" ∷ codes "{" ∷ codes "|" ∷ codes "|=" ∷ codes "||" ∷ codes "}" ∷ []

abbrev pub tab : ℕ
tab = 9

abbrev pub newline : ℕ
newline = 10

abbrev pub carriage_return : ℕ
carriage_return = 13

-- a space, a tab or a carriage return
abbrev pub is_blank : ℕ → Bool
is_blank b = b == byte " " || b == tab || b == carriage_return

abbrev pub is_letter : ℕ → Bool
is_letter b = b == byte "_" || is_ascii_alphabetic b

-- a byte of a name behind its first
abbrev pub is_word_byte : ℕ → Bool
is_word_byte b = is_letter b || is_ascii_digit b

-- a byte of a number behind its first
abbrev pub is_run_byte : ℕ → Bool
is_run_byte b = is_word_byte b || b == byte "."

-- the place of a spelling in a table
abbrev pub place_of : List (List ℕ) → List ℕ → Option ℕ
place_of table bytes = position_from (λ spelling. bytes_eq spelling bytes) 0 table

-- what a word is: the keyword, else a name
unfoldable pub word_item : List ℕ → Item
word_item bytes = Lexeme (option_map_or Keyword (place_of keywords bytes) Name)

-- what the run of a number is
unfoldable pub number_item : List ℕ → Item
number_item bytes = option_map_or Lexeme (number_kind bytes) (Wrong BadLexeme)

-- a written semicolon is no mark of its own
abbrev pub mark_kind : ℕ → TokenKind
mark_kind place = if place == 26 then Semi else Mark place

-- what a mark is; a byte that begins no lexeme is wrong
unfoldable pub mark_item : List ℕ → Option Item
mark_item bytes = option_or (option_map (λ place. Lexeme (mark_kind place)) (place_of marks bytes)) (if length bytes == 1 then Some (Wrong BadLexeme) else None)

abbrev pub is_dead : State → Bool
is_dead Dead = true
is_dead Open = false
is_dead Taken = false
is_dead Shut = false
is_dead Zero = false
is_dead Hex = false
is_dead Sign = false
is_dead HexSign = false

abbrev pub is_operator : Class → Bool
is_operator Operator = true
is_operator Word = false
is_operator Number = false
is_operator Fraction = false
is_operator LineComment = false
is_operator BlockComment = false
is_operator Blank = false
is_operator LineEnd = false
is_operator RawText = false
is_operator QuotedText = false
is_operator QuotedRune = false

-- the class of an item whose first byte is neither a point nor a slash
abbrev pub class_of_byte : ℕ → Class
class_of_byte b =
    if is_letter b || nat_le 128 b then Word
    else (if is_ascii_digit b then Number
    else (if is_blank b then Blank
    else (if b == newline then LineEnd
    else (if b == byte "`" then RawText
    else (if b == double_quote then QuotedText
    else (if b == single_quote then QuotedRune
    else Operator))))))

-- the class of an item by its first two bytes, the second being 0 where there is none
unfoldable pub class_of : ℕ → ℕ → Class
class_of first second =
    if first == byte "." then (if is_ascii_digit second then Fraction else Operator)
    else (if first == byte "/" then (if second == byte "/" then LineComment else (if second == byte "*" then BlockComment else Operator))
    else class_of_byte first)

-- the class of the item at the front of a text
abbrev pub class_at : List ℕ → Class
class_at rest = class_of (slice_index rest 0) (slice_index rest 1)

-- how many bytes tell the class
abbrev pub opener : Class → ℕ
opener Word = 1
opener Number = 1
opener Fraction = 2
opener LineComment = 2
opener BlockComment = 2
opener Blank = 1
opener LineEnd = 1
opener RawText = 1
opener QuotedText = 1
opener QuotedRune = 1
opener Operator = 1

-- the state behind the opener
abbrev pub start_of : Class → ℕ → State
start_of Number first = if first == byte "0" then Zero else Open
start_of Word first = Open
start_of Fraction first = Open
start_of LineComment first = Open
start_of BlockComment first = Open
start_of Blank first = Open
start_of LineEnd first = Open
start_of RawText first = Open
start_of QuotedText first = Open
start_of QuotedRune first = Open
start_of Operator first = Open

abbrev pub is_sign : ℕ → Bool
is_sign b = b == byte "+" || b == byte "-"

-- the state behind a byte of a number
abbrev pub decimal_state : ℕ → State
decimal_state b = if is_decimal_mark b then Sign else Open

abbrev pub hex_state : ℕ → State
hex_state b = if is_hex_mark b then HexSign else Hex

-- a number goes on with letters, digits, `_` and `.`, and with a sign after `e` or, behind 0x, after `p`
abbrev pub number_step : State → ℕ → State
number_step Open b = if is_run_byte b then decimal_state b else Dead
number_step Zero b = if is_run_byte b then (if b == byte "x" || b == byte "X" then Hex else decimal_state b) else Dead
number_step Sign b = if is_run_byte b then decimal_state b else (if is_sign b then Open else Dead)
number_step Hex b = if is_run_byte b then hex_state b else Dead
number_step HexSign b = if is_run_byte b then hex_state b else (if is_sign b then Hex else Dead)
number_step _ b = Dead

-- a literal ends at the first quote that no backslash takes, on its line
abbrev pub quoted_step : ℕ → State → ℕ → State
quoted_step quote Open b = if b == quote then Shut else (if b == backslash then Taken else (if b == newline then Dead else Open))
quoted_step quote Taken b = if b == newline then Dead else Open
quoted_step quote _ b = Dead

-- a comment ends at the first star with a slash behind it
abbrev pub block_step : State → ℕ → State
block_step Open b = if b == byte "*" then Taken else Open
block_step Taken b = if b == byte "/" then Shut else (if b == byte "*" then Taken else Open)
block_step _ b = Dead

-- bytes of one kind go on
abbrev pub while_step : (ℕ → Bool) → State → ℕ → State
while_step test Open b = if test b then Open else Dead
while_step test _ b = Dead

-- a raw text ends at the first back quote
abbrev pub raw_step : State → ℕ → State
raw_step Open b = if b == byte "`" then Shut else Open
raw_step _ b = Dead

unfoldable pub step_of : Class → State → ℕ → State
step_of Word = while_step is_word_byte
step_of Number = number_step
step_of Fraction = number_step
step_of LineComment = while_step (λ b. not (b == newline))
step_of BlockComment = block_step
step_of Blank = while_step (λ b. false)
step_of LineEnd = while_step (λ b. false)
step_of RawText = raw_step
step_of QuotedText = quoted_step double_quote
step_of QuotedRune = quoted_step single_quote
step_of Operator = while_step (λ b. false)

-- a comment with a line's end in it is one
abbrev pub block_item : List ℕ → Item
block_item bytes = if list_any (λ b. b == newline) bytes then Newline else Space

-- a literal with its end, or without
abbrev pub closed : State → Item → Item
closed Shut item = item
closed Open item = Wrong Unclosed
closed Taken item = Wrong Unclosed
closed Zero item = Wrong Unclosed
closed Hex item = Wrong Unclosed
closed Sign item = Wrong Unclosed
closed HexSign item = Wrong Unclosed
closed Dead item = Wrong Unclosed

-- a text between two double quotes
abbrev pub text_item : List ℕ → Item
text_item bytes = if escapes_well double_quote (inner bytes) then Lexeme Text else Wrong BadLexeme

-- a rune between two single quotes
abbrev pub rune_item : List ℕ → Item
rune_item bytes = if is_rune_body (inner bytes) then Lexeme Rune else Wrong BadLexeme

-- what the bytes of a class are that end in a state
unfoldable pub class_item : Class → State → List ℕ → Item
class_item Word state bytes = word_item bytes
class_item Number state bytes = number_item bytes
class_item Fraction state bytes = number_item bytes
class_item LineComment state bytes = Space
class_item BlockComment state bytes = closed state (block_item bytes)
class_item Blank state bytes = Space
class_item LineEnd state bytes = Newline
class_item RawText state bytes = closed state (Lexeme Text)
class_item QuotedText state bytes = closed state (text_item bytes)
class_item QuotedRune state bytes = closed state (rune_item bytes)
class_item Operator state bytes = Wrong BadLexeme

-- the item that bytes of a class are: behind the opener they go from state to state
unfoldable pub item_in : Class → List ℕ → Option Item
item_in class bytes =
    let state = fold (step_of class) (start_of class (slice_index bytes 0)) (drop (opener class) bytes) in
    if is_dead state then None else Some (class_item class state bytes)

abbrev pub is_word_class : Class → Bool
is_word_class Word = true
is_word_class _ = false

-- a word, or a byte that begins none
unfoldable pub word_front : List ℕ → Option Item
word_front bytes = if is_word bytes then Some (word_item bytes) else (if length bytes == 1 then Some (Wrong BadLexeme) else None)

-- the item that all of the bytes are, if they are one
unfoldable pub item_of : List ℕ → Option Item
item_of bytes =
    let class = class_at bytes in
    if is_operator class then mark_item bytes else (if is_word_class class then word_front bytes else item_in class bytes)
