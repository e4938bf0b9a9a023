-- Which bytes lexemes begin and end with: those that are no words with ASCII bytes.
use Rattle.std.proofs.Common.{◌≡◌, ℕ, zero, suc, ◌+◌, ◌-◌, ◌<◌, ◌≤◌, inl, inr, Bool, true, false, cond, ◌||◌, List, [], ◌∷◌, Option, Some, None, length, drop, refl, ap, sym, ◌∙◌, subst, arith}
use Rattle.std.specs.Prelude.{◌==◌, nat_le, nat_lt, not, slice_index}
use Rattle.std.specs.Char.{is_ascii_alphabetic, is_ascii_digit}
use Rattle.std.specs.Int.{is_in_range}
use Rattle.std.specs.List.{fold, list_all, list_any, position_from}
use Rattle.std.specs.Option.{option_map, option_or}
use Rattle.std.specs.Str.{bytes_eq, chars, is_utf8}
use Rattle.std.proofs.lemmas.Bool.{and_parts, and_right, cases_lt, cond-false, cond-true, le-leb, lt-leb, ltb-true, ne_eqb, or_from, or_right, true≢false}
use Rattle.std.proofs.lemmas.Option.{same_Some}
use Rattle.std.proofs.lemmas.Slice.Eq.{bytes_eq-Decides}
use Rattle.std.proofs.lemmas.Str.{IsUtf8-from_ascii, is_utf8-from_IsUtf8}
use Rattle.go_tree.specs.Escapes.{backslash, double_quote, single_quote}
use Rattle.go_tree.specs.Lexeme.{class_at, class_item, class_of, closed, decimal_state, hex_state, is_blank, is_dead, is_letter, is_run_byte, is_sign, is_word_byte, is_word_class, item_in, mark_item, mark_kind, marks, newline, number_step, opener, place_of, quoted_step, raw_step, rune_item, start_of, step_of, text_item, word_front, word_item}
use Rattle.go_tree.specs.Word.{is_word, is_word_text}
use Rattle.go_tree.specs.declared.class.Class.{Class}
use Rattle.go_tree.specs.declared.class.Class.TheVariants.{Word, Number, Fraction, LineComment, BlockComment, Blank, LineEnd, RawText, QuotedText, QuotedRune, Operator}
use Rattle.go_tree.specs.declared.class.State.{State}
use Rattle.go_tree.specs.declared.class.State.TheVariants.{Open, Taken, Shut, Zero, Hex, Sign, HexSign, Dead}
use Rattle.go_tree.specs.declared.token.Item.{Item}
use Rattle.go_tree.specs.declared.token.Item.TheVariants.{Space, Newline, Lexeme, Wrong}
use Rattle.go_tree.specs.declared.token.TokenKind.{TokenKind}
use Rattle.go_tree.specs.declared.token.TokenKind.TheVariants.{Text}
use Rattle.go_tree.specs.declared.token.Why.TheVariants.{BadLexeme}

-- ---- bytes past ASCII

range_high : (low high b : ℕ) → high < b → is_in_range low high b ≡ false
range_high low high b past = and_right (nat_le low b) (nat_le b high) (lt-leb b high past)

alphabetic_high : (b : ℕ) → 128 ≤ b → is_ascii_alphabetic b ≡ false
alphabetic_high b h = or_from (is_in_range 65 90 b) (is_in_range 97 122 b) (range_high 65 90 b (omega (arith, h))) (range_high 97 122 b (omega (arith, h)))

letter_high : (b : ℕ) → 128 ≤ b → is_letter b ≡ false
letter_high b h = or_from (b == 95) (is_ascii_alphabetic b) (ne_eqb b 95 (omega (arith, h))) (alphabetic_high b h)

run_high : (b : ℕ) → 128 ≤ b → is_run_byte b ≡ false
run_high b h =
    or_from (is_word_byte b) (b == 46) (or_from (is_letter b) (is_ascii_digit b) (letter_high b h) (range_high 48 57 b (omega (arith, h)))) (ne_eqb b 46 (omega (arith, h)))

sign_high : (b : ℕ) → 128 ≤ b → is_sign b ≡ false
sign_high b h = or_from (b == 43) (b == 45) (ne_eqb b 43 (omega (arith, h))) (ne_eqb b 45 (omega (arith, h)))

-- such a byte begins words alone
word_by : (p s w : Bool) (x y rest : Class) → p ≡ false → s ≡ false → w ≡ true → cond p x (cond s y (cond w Word rest)) ≡ Word
word_by p s w x y rest e f g = cond-false p x (cond s y (cond w Word rest)) e ∙ (cond-false s y (cond w Word rest) f ∙ cond-true w Word rest g)

class_high : (b second : ℕ) → 128 ≤ b → class_of b second ≡ Word
unfolding class_of
class_high b second h =
    word_by (b == 46) (b == 47) (is_letter b || nat_le 128 b) _ _ _ (ne_eqb b 46 (omega (arith, h))) (ne_eqb b 47 (omega (arith, h))) (or_right (is_letter b) (nat_le 128 b) (le-leb 128 b h))

pub first_low : (b second : ℕ) (class : Class) → class_of b second ≡ class → is_word_class class ≡ false → b < 128
first_low b second class same other = elim (cases_lt b 128) [
  | inl low ↦ low
  | inr h ↦ absurd (true≢false (ap is_word_class (sym (class_high b second h) ∙ same) ∙ other))
]

abbrev is_fraction : Class → Bool
is_fraction Fraction = true
is_fraction Word = false
is_fraction Number = false
is_fraction LineComment = false
is_fraction BlockComment = false
is_fraction Blank = false
is_fraction LineEnd = false
is_fraction RawText = false
is_fraction QuotedText = false
is_fraction QuotedRune = false
is_fraction Operator = false

neither : (t : Bool) (x y : Class) → is_fraction x ≡ false → is_fraction y ≡ false → is_fraction (cond t x y) ≡ false
neither true x y p q = p
neither false x y p q = q

-- a fraction has a digit behind its point
point_high : (b second : ℕ) → 128 ≤ second → is_fraction (class_of b second) ≡ false
unfolding class_of
point_high b second h =
    neither (b == 46) _ _ (ap (λ t. is_fraction (cond t Fraction Operator)) (range_high 48 57 second (omega (arith, h))))
    (neither (b == 47) _ _ (neither (second == 47) _ _ refl (neither (second == 42) _ _ refl refl))
    (neither (is_letter b || nat_le 128 b) _ _ refl
    (neither (is_ascii_digit b) _ _ refl
    (neither (is_blank b) _ _ refl
    (neither (b == newline) _ _ refl
    (neither (b == 96) _ _ refl
    (neither (b == double_quote) _ _ refl
    (neither (b == single_quote) _ _ refl refl))))))))

second_low : (b second : ℕ) → class_of b second ≡ Fraction → second < 128
second_low b second same = elim (cases_lt second 128) [
  | inl low ↦ low
  | inr h ↦ absurd (true≢false (sym (ap is_fraction same) ∙ point_high b second h))
]

-- ---- the last byte

abbrev is_shut : State → Bool
is_shut Shut = true
is_shut Open = false
is_shut Taken = false
is_shut Zero = false
is_shut Hex = false
is_shut Sign = false
is_shut HexSign = false
is_shut Dead = false

number_high : (s : State) (b : ℕ) → 128 ≤ b → not (is_dead (number_step s b)) ≡ false
number_high Open b h = ap (λ t. not (is_dead (cond t (decimal_state b) Dead))) (run_high b h)
number_high Zero b h = ap (λ t. not (is_dead (cond t (cond (b == 120 || b == 88) Hex (decimal_state b)) Dead))) (run_high b h)
number_high Sign b h = ap (λ t. not (is_dead (cond t (decimal_state b) (cond (is_sign b) Open Dead)))) (run_high b h) ∙ ap (λ t. not (is_dead (cond t Open Dead))) (sign_high b h)
number_high Hex b h = ap (λ t. not (is_dead (cond t (hex_state b) Dead))) (run_high b h)
number_high HexSign b h = ap (λ t. not (is_dead (cond t (hex_state b) (cond (is_sign b) Hex Dead)))) (run_high b h) ∙ ap (λ t. not (is_dead (cond t Hex Dead))) (sign_high b h)
number_high Taken b h = refl
number_high Shut b h = refl
number_high Dead b h = refl

raw_high : (s : State) (b : ℕ) → 128 ≤ b → is_shut (raw_step s b) ≡ false
raw_high Open b h = ap (λ t. is_shut (cond t Shut Open)) (ne_eqb b 96 (omega (arith, h)))
raw_high Zero b h = refl
raw_high Sign b h = refl
raw_high Hex b h = refl
raw_high HexSign b h = refl
raw_high Taken b h = refl
raw_high Shut b h = refl
raw_high Dead b h = refl

goes_on : (x y : Bool) → is_shut (cond x Taken (cond y Dead Open)) ≡ false
goes_on true y = refl
goes_on false true = refl
goes_on false false = refl

goes_back : (y : Bool) → is_shut (cond y Dead Open) ≡ false
goes_back true = refl
goes_back false = refl

quoted_high : (quote : ℕ) → quote < 128 → (s : State) (b : ℕ) → 128 ≤ b → is_shut (quoted_step quote s b) ≡ false
quoted_high quote low Open b h =
    ap (λ t. is_shut (cond t Shut (cond (b == backslash) Taken (cond (b == newline) Dead Open)))) (ne_eqb b quote (omega (arith, h, low))) ∙ goes_on (b == backslash) (b == newline)
quoted_high quote low Taken b h = goes_back (b == newline)
quoted_high quote low Zero b h = refl
quoted_high quote low Sign b h = refl
quoted_high quote low Hex b h = refl
quoted_high quote low HexSign b h = refl
quoted_high quote low Shut b h = refl
quoted_high quote low Dead b h = refl

fold_end : (f : State → ℕ → State) (s : State) (b : ℕ) (bytes : List ℕ) → (t : State) × (fold f s (b ∷ bytes) ≡ f t (slice_index (b ∷ bytes) (length bytes)))
fold_end f s b [] = (s, refl)
fold_end f s b (c ∷ bytes) = fold_end f (f s b) c bytes

-- no byte past ASCII leads to a good state, so that none is the last
last_low : (f : State → ℕ → State) (good : State → Bool) (s : State) (b : ℕ) (bytes : List ℕ) → b < 128 → ((t : State) (c : ℕ) → 128 ≤ c → good (f t c) ≡ false) → good (fold f s bytes) ≡ true
    → slice_index (b ∷ bytes) (length bytes) < 128
last_low f good s b [] low high is = low
last_low f good s b (c ∷ bytes) low high is = elim (cases_lt (slice_index (c ∷ bytes) (length bytes)) 128) [
  | inl here ↦ here
  | inr h ↦
      let (t, e) = fold_end f s c bytes in
      absurd (true≢false (sym is ∙ (ap good e ∙ high t (slice_index (c ∷ bytes) (length bytes)) h)))
]

-- ---- what an item of a class is

abbrev pub state_of : Class → List ℕ → State
state_of class bytes = fold (step_of class) (start_of class (slice_index bytes 0)) (drop (opener class) bytes)

alive : (d : Bool) (x i : Item) → cond d None (Some x) ≡ Some i → (d ≡ false) × (x ≡ i)
alive true x i e = absurd (cc)
alive false x i e = (refl, same_Some x i e)

pub item_parts : (class : Class) (bytes : List ℕ) (kind : TokenKind) → item_in class bytes ≡ Some (Lexeme kind)
    → (is_dead (state_of class bytes) ≡ false) × (class_item class (state_of class bytes) bytes ≡ Lexeme kind)
unfolding item_in
item_parts class bytes kind e = alive (is_dead (state_of class bytes)) (class_item class (state_of class bytes) bytes) (Lexeme kind) e

space_not : (kind : TokenKind) → Space ≡ Lexeme kind → ⊥
space_not kind e = cc

newline_not : (kind : TokenKind) → Newline ≡ Lexeme kind → ⊥
newline_not kind e = cc

closed_shut : (s : State) (item : Item) (kind : TokenKind) → closed s item ≡ Lexeme kind → s ≡ Shut
closed_shut Shut item kind e = refl
closed_shut Open item kind e = absurd (cc)
closed_shut Taken item kind e = absurd (cc)
closed_shut Zero item kind e = absurd (cc)
closed_shut Hex item kind e = absurd (cc)
closed_shut Sign item kind e = absurd (cc)
closed_shut HexSign item kind e = absurd (cc)
closed_shut Dead item kind e = absurd (cc)

comment_not : (s : State) (t : Bool) (kind : TokenKind) → closed s (cond t Newline Space) ≡ Lexeme kind → ⊥
comment_not Shut true kind e = cc
comment_not Shut false kind e = cc
comment_not Open t kind e = cc
comment_not Taken t kind e = cc
comment_not Zero t kind e = cc
comment_not Hex t kind e = cc
comment_not Sign t kind e = cc
comment_not HexSign t kind e = cc
comment_not Dead t kind e = cc

pub number_last : (b : ℕ) (bytes : List ℕ) → b < 128 → is_dead (state_of Number (b ∷ bytes)) ≡ false → slice_index (b ∷ bytes) (length bytes) < 128
unfolding step_of
number_last b bytes low e = last_low number_step (λ s. not (is_dead s)) (start_of Number b) b bytes low number_high (ap not e)

pub fraction_last : (b : ℕ) (bytes : List ℕ) → b < 128 → class_at (b ∷ bytes) ≡ Fraction → is_dead (state_of Fraction (b ∷ bytes)) ≡ false → slice_index (b ∷ bytes) (length bytes) < 128
unfolding step_of
fraction_last b [] low same e = low
fraction_last b (c ∷ bytes) low same e = last_low number_step (λ s. not (is_dead s)) Open c bytes (second_low b c same) number_high (ap not e)

pub raw_last : (b : ℕ) (bytes : List ℕ) (kind : TokenKind) → b < 128 → class_item RawText (state_of RawText (b ∷ bytes)) (b ∷ bytes) ≡ Lexeme kind → slice_index (b ∷ bytes) (length bytes) < 128
unfolding step_of class_item
raw_last b bytes kind low e = last_low raw_step is_shut Open b bytes low raw_high (ap is_shut (closed_shut (state_of RawText (b ∷ bytes)) (Lexeme Text) kind e))

pub text_last : (b : ℕ) (bytes : List ℕ) (kind : TokenKind) → b < 128 → class_item QuotedText (state_of QuotedText (b ∷ bytes)) (b ∷ bytes) ≡ Lexeme kind → slice_index (b ∷ bytes) (length bytes) < 128
unfolding step_of class_item
text_last b bytes kind low e =
    last_low (quoted_step double_quote) is_shut Open b bytes low (quoted_high double_quote (omega arith)) (ap is_shut (closed_shut (state_of QuotedText (b ∷ bytes)) (text_item (b ∷ bytes)) kind e))

pub rune_last : (b : ℕ) (bytes : List ℕ) (kind : TokenKind) → b < 128 → class_item QuotedRune (state_of QuotedRune (b ∷ bytes)) (b ∷ bytes) ≡ Lexeme kind → slice_index (b ∷ bytes) (length bytes) < 128
unfolding step_of class_item
rune_last b bytes kind low e =
    last_low (quoted_step single_quote) is_shut Open b bytes low (quoted_high single_quote (omega arith)) (ap is_shut (closed_shut (state_of QuotedRune (b ∷ bytes)) (rune_item (b ∷ bytes)) kind e))

-- gaps are no lexemes
pub remark_not : (s : State) (bytes : List ℕ) (kind : TokenKind) → class_item LineComment s bytes ≡ Lexeme kind → ⊥
unfolding class_item
remark_not s bytes kind e = space_not kind e

pub blank_not : (s : State) (bytes : List ℕ) (kind : TokenKind) → class_item Blank s bytes ≡ Lexeme kind → ⊥
unfolding class_item
blank_not s bytes kind e = space_not kind e

pub line_not : (s : State) (bytes : List ℕ) (kind : TokenKind) → class_item LineEnd s bytes ≡ Lexeme kind → ⊥
unfolding class_item
line_not s bytes kind e = newline_not kind e

pub block_not : (s : State) (bytes : List ℕ) (kind : TokenKind) → class_item BlockComment s bytes ≡ Lexeme kind → ⊥
unfolding class_item
block_not s bytes kind e = comment_not s (list_any (λ b. b == newline) bytes) kind e

-- ---- words and marks

word_is : (w one : Bool) (item : Item) (kind : TokenKind) → cond w (Some item) (cond one (Some (Wrong BadLexeme)) None) ≡ Some (Lexeme kind) → w ≡ true
word_is true one item kind e = refl
word_is false true item kind e = absurd (cc)
word_is false false item kind e = absurd (cc)

word_text : (bytes : List ℕ) → is_word bytes ≡ true → is_utf8 bytes ≡ true
unfolding is_word
word_text bytes e = (and_parts (is_utf8 bytes) (is_word_text (chars bytes)) e).0

pub word_utf8 : (bytes : List ℕ) (kind : TokenKind) → word_front bytes ≡ Some (Lexeme kind) → is_utf8 bytes ≡ true
unfolding word_front
word_utf8 bytes kind e = word_text bytes (word_is (is_word bytes) (length bytes == 1) (word_item bytes) kind e)

abbrev all_low : List ℕ → Bool
all_low bytes = list_all (λ b. nat_lt b 128) bytes

low_ascii : (bytes : List ℕ) → all_low bytes ≡ true → (i : ℕ) → slice_index bytes i < 128
low_ascii [] e i = omega arith
low_ascii (b ∷ bytes) e zero = ltb-true b 128 (and_parts (nat_lt b 128) (all_low bytes) e).0
low_ascii (b ∷ bytes) e (suc i) = low_ascii bytes (and_parts (nat_lt b 128) (all_low bytes) e).1 i

in_table : (table : List (List ℕ)) (start k : ℕ) (bytes : List ℕ) → list_all all_low table ≡ true → position_from (λ spelling. bytes_eq spelling bytes) start table ≡ Some k → all_low bytes ≡ true
in_table [] start k bytes all e = absurd (cc)
in_table (s ∷ table) start k bytes all e = by (bytes_eq s bytes) refl e (in_table table (start + 1) k bytes (and_parts (all_low s) (list_all all_low table) all).1) where
  by : (t : Bool) → bytes_eq s bytes ≡ t → cond t (Some start) (position_from (λ spelling. bytes_eq spelling bytes) (start + 1) table) ≡ Some k
      → (position_from (λ spelling. bytes_eq spelling bytes) (start + 1) table ≡ Some k → all_low bytes ≡ true) → all_low bytes ≡ true
  by true same found later = subst (λ (x : List ℕ). all_low x ≡ true) ((bytes_eq-Decides s bytes).0 same) (and_parts (all_low s) (list_all all_low table) all).0
  by false other found later = later found

marks_low : list_all all_low marks ≡ true
marks_low = refl

mark_place : (o : Option ℕ) (one : Bool) (kind : TokenKind) → option_or (option_map (λ place. Lexeme (mark_kind place)) o) (cond one (Some (Wrong BadLexeme)) None) ≡ Some (Lexeme kind) → (k : ℕ) × (o ≡ Some k)
mark_place (Some k) one kind e = (k, refl)
mark_place None true kind e = absurd (cc)
mark_place None false kind e = absurd (cc)

pub mark_utf8 : (bytes : List ℕ) (kind : TokenKind) → mark_item bytes ≡ Some (Lexeme kind) → is_utf8 bytes ≡ true
unfolding mark_item
mark_utf8 bytes kind e =
    let (k, there) = mark_place (place_of marks bytes) (length bytes == 1) kind e in
    is_utf8-from_IsUtf8 bytes (IsUtf8-from_ascii bytes (low_ascii bytes (in_table marks 0 k bytes marks_low there)))
