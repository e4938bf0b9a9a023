-- Each text has tokens, or the scanner refuses it.
use Rattle.std.proofs.Common.{◌≡◌, ℕ, zero, suc, ◌+◌, ◌-◌, ◌<◌, ◌≤◌, ◌⊎◌, inl, inr, Bool, true, false, Option, Some, None, List, [], ◌∷◌, length, take, drop, refl, ap, sym, ◌∙◌, subst, arith}
use Rattle.std.specs.Prelude.{if◌then◌else◌, ◌==◌, slice_index}
use Rattle.std.specs.List.{fold}
use Rattle.std.specs.Str.{byte}
use Rattle.std.specs.Option.{option_map, option_or}
use Rattle.std.specs.Str.Lossy.{utf8_valid_len}
use Rattle.std.proofs.lemmas.Bool.{cases_lt}
use Rattle.std.proofs.lemmas.List.{length-drop}
use Rattle.go_tree.specs.declared.class.Class.{Class}
use Rattle.go_tree.specs.declared.class.Class.TheVariants.{Word, Number, Fraction, LineComment, BlockComment, Blank, LineEnd, RawText, QuotedText, QuotedRune, Operator}
use Rattle.go_tree.specs.declared.class.State.{State}
use Rattle.go_tree.specs.declared.class.State.TheVariants.{Open, Zero}
use Rattle.go_tree.specs.declared.token.Item.{Item}
use Rattle.go_tree.specs.declared.token.Item.TheVariants.{Space, Newline, Lexeme, Wrong}
use Rattle.go_tree.specs.declared.token.Piece.{Piece}
use Rattle.go_tree.specs.declared.token.Token.{Token}
use Rattle.go_tree.specs.declared.token.Why.{Why}
use Rattle.go_tree.specs.declared.token.Why.TheVariants.{BadLexeme}
use Rattle.go_tree.specs.Word.{is_word}
use Rattle.go_tree.specs.Lexeme.{is_dead, is_operator, is_word_class, class_at, class_item, item_in, item_of, mark_item, mark_kind, marks, opener, place_of, start_of, step_of, word_front, word_item}
use Rattle.go_tree.specs.Lexed.{Begins, Cuts, EndsAt, FailsAt, IsSound, Lexed, LexRefused, Passes, fault_at, front_mark, size_of, tokens_of}

-- ---- a test of each place

-- the least of n places where a test finds something
record Least {A : Type 0} (f : ℕ → Option A) (n : ℕ) : Type 0 where
  at : ℕ
  why : A
  within : at < n
  fails : f at ≡ Some why
  least : (k : ℕ) → k < at → f k ≡ None

abbrev Clean : {A : Type 0} → (ℕ → Option A) → ℕ → Type 0
Clean f n = (at : ℕ) → at < n → f at ≡ None

clean_more : {A : Type 0} (f : ℕ → Option A) (n : ℕ) → Clean f n → f n ≡ None → Clean f (suc n)
clean_more f n clean none at lt = elim (cases_lt at n) [
  | inl low ↦ clean at low
  | inr high ↦ (let e : at ≡ n = omega (arith, lt, high) in ap f e ∙ none)
]

least_more : {A : Type 0} (f : ℕ → Option A) (n : ℕ) (o : Option A) → f n ≡ o → Clean f n ⊎ Least f n → Clean f (suc n) ⊎ Least f (suc n)
least_more f n None is (inl clean) = inl (clean_more f n clean is)
least_more f n (Some why) is (inl clean) = inr (record { at = n; why = why; within = omega arith; fails = is; least = clean })
least_more f n o is (inr l) = inr (record { at = l.at; why = l.why; within = (let w = l.within in omega (arith, w)); fails = l.fails; least = l.least })

least_of : {A : Type 0} (f : ℕ → Option A) (n : ℕ) → Clean f n ⊎ Least f n
least_of f zero = inl (λ at lt. absurd (omega (arith, lt)))
least_of f (suc n) = least_more f n (f n) refl (least_of f n)

-- ---- a text that isn't empty begins with an item

abbrev Has : {A : Type 0} → Option A → Type 0
Has {A} o = (x : A) × (o ≡ Some x)

has_if : {A : Type 0} (b : Bool) (x y : Option A) → Has x → Has y → Has (if b then x else y)
has_if true x y h k = h
has_if false x y h k = k

has_or : {A : Type 0} (o : Option A) (x : A) → Has (option_or o (Some x))
has_or None x = (x, refl)
has_or (Some y) x = (y, refl)

alive : (class : Class) (b : ℕ) → is_dead (start_of class b) ≡ false
alive Word b = refl
alive Number b = by (b == byte "0")
  where
    by : (c : Bool) → is_dead (if c then Zero else Open) ≡ false
    by true = refl
    by false = refl
alive Fraction b = refl
alive LineComment b = refl
alive BlockComment b = refl
alive Blank b = refl
alive LineEnd b = refl
alive RawText b = refl
alive QuotedText b = refl
alive QuotedRune b = refl
alive Operator b = refl

no_tail : (class : Class) (b : ℕ) → drop (opener class) (b ∷ []) ≡ []
no_tail Word b = refl
no_tail Number b = refl
no_tail Fraction b = refl
no_tail LineComment b = refl
no_tail BlockComment b = refl
no_tail Blank b = refl
no_tail LineEnd b = refl
no_tail RawText b = refl
no_tail QuotedText b = refl
no_tail QuotedRune b = refl
no_tail Operator b = refl

one_state : (class : Class) (b : ℕ) → is_dead (fold (step_of class) (start_of class b) (drop (opener class) (b ∷ []))) ≡ false
one_state class b = ap (λ (bytes : List ℕ). is_dead (fold (step_of class) (start_of class b) bytes)) (no_tail class b) ∙ alive class b

one_in : (class : Class) (b : ℕ) → Has (item_in class (b ∷ []))
unfolding item_in
one_in class b =
    let state = fold (step_of class) (start_of class b) (drop (opener class) (b ∷ [])) in
    (class_item class state (b ∷ []), ap (λ (c : Bool). if c then None else Some (class_item class state (b ∷ []))) (one_state class b))

one_mark : (b : ℕ) → Has (mark_item (b ∷ []))
unfolding mark_item
one_mark b = has_or (option_map (λ (place : ℕ). Lexeme (mark_kind place)) (place_of marks (b ∷ []))) (Wrong BadLexeme)

one_word : (b : ℕ) → Has (word_front (b ∷ []))
unfolding word_front
one_word b = has_if (is_word (b ∷ [])) (Some (word_item (b ∷ []))) (Some (Wrong BadLexeme)) (word_item (b ∷ []), refl) (Wrong BadLexeme, refl)

one_item : (b : ℕ) → Has (item_of (b ∷ []))
unfolding item_of
one_item b = has_if (is_operator class) (mark_item (b ∷ [])) (if is_word_class class then word_front (b ∷ []) else item_in class (b ∷ [])) (one_mark b)
    (has_if (is_word_class class) (word_front (b ∷ [])) (item_in class (b ∷ [])) (one_word b) (one_in class b))
  where
    class : Class
    class = class_at (b ∷ [])

-- ---- the longest of the fronts that are items

record Front (items : List ℕ → Option Item) (rest : List ℕ) (n : ℕ) : Type 0 where
  size : ℕ
  item : Item
  some : 0 < size
  low : size ≤ n
  is : items (take size rest) ≡ Some item
  longest : (m : ℕ) → size < m → m ≤ n → items (take m rest) ≡ None

front_more : (items : List ℕ → Option Item) (rest : List ℕ) (n : ℕ) (o : Option Item) → items (take (suc n) rest) ≡ o → Front items rest n → Front items rest (suc n)
front_more items rest n None is f = record {
  size = f.size;
  item = f.item;
  some = f.some;
  low = (let low = f.low in omega (arith, low));
  is = f.is;
  longest = λ m lt le. elim (cases_lt n m) [
    | inl high ↦ (let e : m ≡ suc n = omega (arith, high, le) in ap (λ (k : ℕ). items (take k rest)) e ∙ is)
    | inr less ↦ f.longest m lt less
  ];
}
front_more items rest n (Some item) is f = record { size = suc n; item = item; some = omega arith; low = omega arith; is = is; longest = λ m lt le. absurd (omega (arith, lt, le)) }

front_of : (items : List ℕ → Option Item) (rest : List ℕ) (n : ℕ) → Has (items (take 1 rest)) → Front items rest (suc n)
front_of items rest zero first = record { size = 1; item = first.0; some = omega arith; low = omega arith; is = first.1; longest = λ m lt le. absurd (omega (arith, lt, le)) }
front_of items rest (suc n) first = front_more items rest (suc n) (items (take (suc (suc n)) rest)) refl (front_of items rest n first)

-- ---- the cut of a text

-- gaps and lexemes, up to the end or to something else
record Cut (text : List ℕ) : Type 0 where
  pieces : List Piece
  rest : List ℕ
  cuts : Cuts item_of pieces text rest
  ends : (rest ≡ []) ⊎ ((why : Why) × ((size : ℕ) × Begins item_of (record { item = Wrong why; size = size }) rest))

cut_on : (text : List ℕ) (piece : Piece) → Begins item_of piece text → IsSound piece.item → Cut (drop piece.size text) → Cut text
cut_on text piece begins sound c = record { pieces = piece ∷ c.pieces; rest = c.rest; cuts = (begins, sound, c.cuts); ends = c.ends }

cut_one : (text : List ℕ) (item : Item) (size : ℕ) → Begins item_of (record { item = item; size = size }) text → Cut (drop size text) → Cut text
cut_one text Space size begins more = cut_on text (record { item = Space; size = size }) begins tt more
cut_one text Newline size begins more = cut_on text (record { item = Newline; size = size }) begins tt more
cut_one text (Lexeme kind) size begins more = cut_on text (record { item = Lexeme kind; size = size }) begins tt more
cut_one text (Wrong why) size begins more = record { pieces = []; rest = text; cuts = refl; ends = inr (why, (size, begins)) }

cut_within : (n : ℕ) (text : List ℕ) → length text ≤ n → Cut text
cut_within n [] le = record { pieces = []; rest = []; cuts = refl; ends = inl refl }
cut_within zero (b ∷ bs) le = absurd (omega (arith, le))
cut_within (suc n) (b ∷ bs) le =
    let f = front_of item_of (b ∷ bs) (length bs) (one_item b) in
    let some = f.some in
    let long : length (drop f.size (b ∷ bs)) ≡ length (b ∷ bs) - f.size = length-drop f.size (b ∷ bs) in
    cut_one (b ∷ bs) f.item f.size (record { within = f.low; is = f.is; longest = f.longest }) (cut_within n (drop f.size (b ∷ bs)) (omega (arith, long, some, le)))

cut_of : (text : List ℕ) → Cut text
cut_of text = cut_within (length text) text (omega arith)

-- ---- the answer

abbrev pub Answer : List ℕ → Type 0
Answer text = ((tokens : List Token) × Lexed text tokens) ⊎ ((offset : ℕ) × ((why : Why) × LexRefused text offset why))

cut_answer : (text : List ℕ) → Passes text → Cut (drop (front_mark text) text) → Answer text
cut_answer text passes c = elim c.ends [
  | inl none ↦ inl (tokens_of (front_mark text) None c.pieces, record { passes = passes; pieces = c.pieces; cuts = subst (λ (r : List ℕ). Cuts item_of c.pieces (drop (front_mark text) text) r) none c.cuts; gives = refl })
  | inr wrong ↦ inr (front_mark text + size_of c.pieces, (wrong.0, inr (record { passes = passes; pieces = c.pieces; rest = c.rest; cuts = c.cuts; size = wrong.1.0; wrong = wrong.1.1; at = refl })))
]

pub lexing : (text : List ℕ) → Answer text
lexing text = elim (least_of (fault_at text (utf8_valid_len text)) (length text)) [
  | inl passes ↦ cut_answer text passes (cut_of (drop (front_mark text) text))
  | inr l ↦ inr (l.at, (l.why, inl (record { within = l.within; fails = l.fails; least = l.least })))
]
