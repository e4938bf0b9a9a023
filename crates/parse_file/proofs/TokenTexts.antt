-- Each token of a text that is lexed is UTF-8: a word is spelled by characters, and the others begin and end with ASCII bytes.
use Rattle.std.proofs.Common.{◌≡◌, ℕ, zero, suc, ◌+◌, ◌-◌, ◌<◌, ◌≤◌, inl, inr, Bool, true, false, cond, List, [], ◌∷◌, Option, Some, length, take, drop, refl, ap, sym, ◌∙◌, subst, arith, slice_get, IsUtf8}
use Rattle.std.specs.Prelude.{◌==◌, is_some, slice_index}
use Rattle.std.specs.Str.{is_utf8}
use Rattle.std.specs.Str.Lossy.{utf8_valid_len, valid_len_up_to}
use Rattle.std.proofs.lemmas.Bool.{cases_lt, cond-true, eq-eqb, true≢false}
use Rattle.std.proofs.lemmas.List.{get_or-drop, get_or-take, length-drop, length-take, take_all}
use Rattle.std.specs.Str.{IsCharBoundary}
use Rattle.std.proofs.lemmas.Str.{IsCharBoundary-after_ascii, IsCharBoundary-before_ascii, IsUtf8-between, IsUtf8-from_is_utf8, IsUtf8-nil, is_utf8-from_IsUtf8}
use Rattle.go_tree.specs.Lexed.{Lexed, Passes, fault_at}
use Rattle.go_tree.specs.Lexeme.{class_at, is_operator, is_word_class, item_in, item_of, mark_item, word_front}
use Rattle.go_tree.specs.Spelling.{text_of}
use Rattle.go_tree.specs.declared.class.Class.{Class}
use Rattle.go_tree.specs.declared.class.Class.TheVariants.{Word, Number, Fraction, LineComment, BlockComment, Blank, LineEnd, RawText, QuotedText, QuotedRune, Operator}
use Rattle.go_tree.specs.declared.token.Item.{Item}
use Rattle.go_tree.specs.declared.token.Item.TheVariants.{Lexeme}
use Rattle.go_tree.specs.declared.token.Token.{Token}
use Rattle.go_tree.specs.declared.token.TokenKind.{TokenKind}
use Rattle.go_tree.specs.declared.token.TokenKind.TheVariants.{Semi}
use Rattle.go_tree.specs.declared.token.Why.{Why}
use Rattle.go_tree.specs.declared.token.Why.TheVariants.{NotUtf8}
use Rattle.go_tree.specs.declared.tree.FileTree.{FileTree}
use Rattle.go_scan.proofs.TokenLaws.{at_place, each_lexed}
use Rattle.parse_file.specs.Verdict.{IsParsed}
use Rattle.parse_file.proofs.LexemeBytes.{block_not, blank_not, first_low, fraction_last, item_parts, line_not, mark_utf8, number_last, raw_last, remark_not, rune_last, state_of, text_last, word_utf8}

-- ---- the whole text

valid_low : (bytes : List ℕ) (m : ℕ) → valid_len_up_to bytes m ≤ m
valid_low bytes zero = omega arith
valid_low bytes (suc m) = by (is_utf8 (take (suc m) bytes)) (valid_low bytes m) where
  by : (t : Bool) → valid_len_up_to bytes m ≤ m → cond t (suc m) (valid_len_up_to bytes m) ≤ suc m
  by true low = omega arith
  by false low = omega (arith, low)

valid_front : (bytes : List ℕ) (m : ℕ) → m ≤ valid_len_up_to bytes m → IsUtf8 (take m bytes)
valid_front bytes zero le = IsUtf8-nil
valid_front bytes (suc m) le = by (is_utf8 (take (suc m) bytes)) refl where
  by : (t : Bool) → is_utf8 (take (suc m) bytes) ≡ t → IsUtf8 (take (suc m) bytes)
  by true e = IsUtf8-from_is_utf8 (take (suc m) bytes) e
  by false e =
      let here : valid_len_up_to bytes (suc m) ≡ valid_len_up_to bytes m = ap (λ t. cond t (suc m) (valid_len_up_to bytes m)) e in
      let low = valid_low bytes m in
      absurd (omega (arith, le, here, low))

all_valid : (text : List ℕ) → length text ≤ utf8_valid_len text → IsUtf8 text
unfolding utf8_valid_len
all_valid text le = subst IsUtf8 (take_all (length text) text (omega arith)) (valid_front text (length text) le)

cut_short : (text : List ℕ) → Passes text → utf8_valid_len text < length text → ⊥
cut_short text passes short =
    let n = utf8_valid_len text in
    let found : fault_at text n n ≡ Some NotUtf8 = cond-true (n == n) (Some NotUtf8) _ (eq-eqb n n refl) in
    true≢false (ap (λ (o : Option Why). is_some o) (sym found ∙ passes n short))

-- what passes the tests of a whole text is UTF-8
whole_utf8 : (text : List ℕ) → Passes text → IsUtf8 text
whole_utf8 text passes = elim (cases_lt (utf8_valid_len text) (length text)) [
  | inl short ↦ absurd (cut_short text passes short)
  | inr all ↦ all_valid text all
]

-- ---- a token

nothing_utf8 : is_utf8 [] ≡ true
nothing_utf8 = is_utf8-from_IsUtf8 [] IsUtf8-nil

abbrev item_by : Class → List ℕ → Option Item
item_by class bytes = cond (is_operator class) (mark_item bytes) (cond (is_word_class class) (word_front bytes) (item_in class bytes))

item_is : (bytes : List ℕ) → item_of bytes ≡ item_by (class_at bytes) bytes
unfolding item_of
item_is bytes = refl

module _ (text : List ℕ) (utf8 : IsUtf8 text) (kind : TokenKind) (at size : ℕ) (le : at + size ≤ length text) where
  -- what begins and ends with an ASCII byte is cut out of the text between characters
  between_ends : (b : ℕ) (bytes : List ℕ) → take size (drop at text) ≡ b ∷ bytes → b < 128 → slice_index (b ∷ bytes) (length bytes) < 128 → is_utf8 (take size (drop at text)) ≡ true
  between_ends b bytes e first last =
      let sizes : suc (length bytes) ≡ size = omega (arith, ap length e, length-take size (drop at text), length-drop at text, le) in
      let spot : (i : ℕ) → i < size → slice_index text (at + i) ≡ slice_index (b ∷ bytes) i = λ i lt.
      sym (get_or-drop at text i 0) ∙ (sym (get_or-take size (drop at text) i 0 lt) ∙ ap (λ l. slice_index l i) e) in
      let front : slice_index text (at + 0) < 128 = subst (λ k. k < 128) (sym (spot 0 (omega (arith, sizes)))) first in
      let begins : at + 0 ≡ at = omega arith in
      let back : slice_index text (at + length bytes) < 128 = subst (λ k. k < 128) (sym (spot (length bytes) (omega (arith, sizes)))) last in
      let ends : at + length bytes + 1 ≡ at + size = omega (arith, sizes) in
      let same : at + size - at ≡ size = omega arith in
      is_utf8-from_IsUtf8 (take size (drop at text)) (subst (λ k. IsUtf8 (take k (drop at text))) same (IsUtf8-between text at (at + size) utf8 (omega arith)
      (IsCharBoundary-before_ascii text at (omega (arith, sizes, le)) (subst (λ k. slice_index text k < 128) begins front))
      (subst (λ k. IsCharBoundary text k) ends (IsCharBoundary-after_ascii text (at + length bytes) utf8 (omega (arith, sizes, le)) back))))

  by_class : (b : ℕ) (bytes : List ℕ) → take size (drop at text) ≡ b ∷ bytes → (class : Class) → class_at (b ∷ bytes) ≡ class → item_by class (b ∷ bytes) ≡ Some (Lexeme kind)
      → is_utf8 (take size (drop at text)) ≡ true
  by_class b bytes e Operator same is = ap is_utf8 e ∙ mark_utf8 (b ∷ bytes) kind is
  by_class b bytes e Word same is = ap is_utf8 e ∙ word_utf8 (b ∷ bytes) kind is
  by_class b bytes e Number same is =
      let low = first_low b (slice_index (b ∷ bytes) 1) Number same refl in
      between_ends b bytes e low (number_last b bytes low (item_parts Number (b ∷ bytes) kind is).0)
  by_class b bytes e Fraction same is =
      let low = first_low b (slice_index (b ∷ bytes) 1) Fraction same refl in
      between_ends b bytes e low (fraction_last b bytes low same (item_parts Fraction (b ∷ bytes) kind is).0)
  by_class b bytes e RawText same is =
      let low = first_low b (slice_index (b ∷ bytes) 1) RawText same refl in
      between_ends b bytes e low (raw_last b bytes kind low (item_parts RawText (b ∷ bytes) kind is).1)
  by_class b bytes e QuotedText same is =
      let low = first_low b (slice_index (b ∷ bytes) 1) QuotedText same refl in
      between_ends b bytes e low (text_last b bytes kind low (item_parts QuotedText (b ∷ bytes) kind is).1)
  by_class b bytes e QuotedRune same is =
      let low = first_low b (slice_index (b ∷ bytes) 1) QuotedRune same refl in
      between_ends b bytes e low (rune_last b bytes kind low (item_parts QuotedRune (b ∷ bytes) kind is).1)
  by_class b bytes e LineComment same is = absurd (remark_not (state_of LineComment (b ∷ bytes)) (b ∷ bytes) kind (item_parts LineComment (b ∷ bytes) kind is).1)
  by_class b bytes e BlockComment same is = absurd (block_not (state_of BlockComment (b ∷ bytes)) (b ∷ bytes) kind (item_parts BlockComment (b ∷ bytes) kind is).1)
  by_class b bytes e Blank same is = absurd (blank_not (state_of Blank (b ∷ bytes)) (b ∷ bytes) kind (item_parts Blank (b ∷ bytes) kind is).1)
  by_class b bytes e LineEnd same is = absurd (line_not (state_of LineEnd (b ∷ bytes)) (b ∷ bytes) kind (item_parts LineEnd (b ∷ bytes) kind is).1)

  lexeme_by : (bytes : List ℕ) → take size (drop at text) ≡ bytes → item_of bytes ≡ Some (Lexeme kind) → is_utf8 (take size (drop at text)) ≡ true
  lexeme_by [] e is = ap is_utf8 e ∙ nothing_utf8
  lexeme_by (b ∷ bytes) e is = by_class b bytes e (class_at (b ∷ bytes)) refl (sym (item_is (b ∷ bytes)) ∙ is)

  lexeme_utf8 : item_of (take size (drop at text)) ≡ Some (Lexeme kind) → is_utf8 (take size (drop at text)) ≡ true
  lexeme_utf8 is = lexeme_by (take size (drop at text)) refl is

abbrev IsText : List ℕ → Token → Type 0
IsText text t = is_utf8 (text_of text t) ≡ true

inserted_text : (text : List ℕ) (at : ℕ) → IsText text (record { kind = Semi; start = at; «end» = at })
inserted_text text at = let none : at - at ≡ 0 = omega arith in ap (λ n. is_utf8 (take n (drop at text))) none ∙ nothing_utf8

lexeme_text : (text : List ℕ) → IsUtf8 text → (kind : TokenKind) (at size : ℕ) → at + size ≤ length text → item_of (take size (drop at text)) ≡ Some (Lexeme kind)
    → IsText text (record { kind = kind; start = at; «end» = at + size })
lexeme_text text utf8 kind at size le is = let same : at + size - at ≡ size = omega arith in ap (λ n. is_utf8 (take n (drop at text))) same ∙ lexeme_utf8 text utf8 kind at size le is

token_utf8 : (text : List ℕ) (tokens : List Token) (i : ℕ) (t : Token) → Lexed text tokens → slice_get tokens i ≡ Some t → is_utf8 (text_of text t) ≡ true
token_utf8 text tokens i t lexed there =
    let utf8 = whole_utf8 text lexed.passes in
    at_place (IsText text) tokens i t (each_lexed item_of text (IsText text) (λ at le. inserted_text text at) (lexeme_text text utf8) tokens lexed) there

-- each token of a file that parses
pub parsed_utf8 : (text : List ℕ) (tree : FileTree) (i : ℕ) (t : Token) → IsParsed text tree → slice_get tree.tokens i ≡ Some t → is_utf8 (text_of text t) ≡ true
parsed_utf8 text tree i t parsed there =
    let same : parsed.tokens ≡ tree.tokens = ap (λ (u : FileTree). u.tokens) parsed.spelled.arena in
    token_utf8 text parsed.tokens i t parsed.lexed (ap (λ (tokens : List Token). slice_get tokens i) same ∙ there)
