-- Which piece begins a text.
use Rattle.std.proofs.Common.{◌≡◌, ℕ, ◌+◌, ◌-◌, ◌<◌, ◌≤◌, Bool, true, false, cond, ◌||◌, List, [], ◌∷◌, Option, Some, None, length, take, drop, refl, sym, ap, subst, ◌⊎◌, inl, inr, ⊎_elim, ◌∙◌, arith, length-drop, bytes_eq, nat_le, nat_eq, eq-eqb}
use Rattle.std.specs.Prelude.{slice_index, ◌==◌}
use Rattle.std.specs.List.{list_all, position_from, fold}
use Rattle.std.specs.Cmp.{first_so, second_so}
use Rattle.std.specs.Char.{is_ascii_digit}
use Rattle.std.specs.Option.{option_map, option_or}
use Rattle.std.proofs.str.Laws.{order}
use Rattle.std.proofs.lemmas.Bool.{cond-true, cond-false, leb-true}
use Rattle.std.proofs.lemmas.Bool.Decides.{Decides-eqb}
use Rattle.std.proofs.lemmas.Slice.Eq.{bytes_eq-Decides}
use Rattle.std.proofs.lemmas.List.{get_or-take, drop-take, length-take-le, take-take, take_rest, get_or_past}
use Rattle.std.proofs.lemmas.List.Folds.{fold_stuck}
use Rattle.go_tree.specs.declared.class.Class.{Class}
use Rattle.go_tree.specs.declared.class.Class.TheVariants.{Word, Number, Fraction, LineComment, BlockComment, Blank, LineEnd, RawText, QuotedText, QuotedRune, Operator}
use Rattle.go_tree.specs.declared.class.State.{State}
use Rattle.go_tree.specs.declared.class.State.TheVariants.{Dead, Open}
use Rattle.go_tree.specs.declared.token.Piece.{Piece}
use Rattle.go_tree.specs.declared.token.Item.{Item}
use Rattle.go_tree.specs.declared.token.Item.TheVariants.{Lexeme, Space, Wrong}
use Rattle.go_tree.specs.declared.token.Why.TheVariants.{BadLexeme}
use Rattle.go_tree.specs.Lexeme.{is_letter, is_blank, mark_item, mark_kind, marks, place_of, item_of, item_in, class_item, class_of, class_at, class_of_byte, opener, start_of, step_of, is_dead, is_operator, is_word_class, word_front, word_item}
use Rattle.go_tree.specs.Word.{is_word}
use Rattle.go_tree.specs.Lexed.{Begins}
use Rattle.go_lexeme.specs.Run.{goes_on, IsRun, NoMark, IsMark, IsClassPiece, IsWordPiece}

-- a test whose truth is absurd is false
refuted : (b : Bool) → (b ≡ true → ⊥) → b ≡ false
refuted true h = absurd (h refl)
refuted false h = refl

nat_eq_false : (a b : ℕ) → (a ≡ b → ⊥) → nat_eq a b ≡ false
nat_eq_false a b other = refuted _ (λ same. other ((Decides-eqb a b).0 same))

-- What the class of a front is.

dead_stays : (class : Class) (b : ℕ) → step_of class Dead b ≡ Dead
unfolding step_of
dead_stays Word b = refl
dead_stays Number b = refl
dead_stays Fraction b = refl
dead_stays LineComment b = refl
dead_stays BlockComment b = refl
dead_stays Blank b = refl
dead_stays LineEnd b = refl
dead_stays RawText b = refl
dead_stays QuotedText b = refl
dead_stays QuotedRune b = refl
dead_stays Operator b = refl

alone_point : (d : Bool) → opener (cond d Fraction Operator) ≡ 1 → Operator ≡ cond d Fraction Operator
alone_point true one = absurd (omega arith)
alone_point false one = refl

alone_slash : (l b : Bool) → opener (cond l LineComment (cond b BlockComment Operator)) ≡ 1 → Operator ≡ cond l LineComment (cond b BlockComment Operator)
alone_slash true b one = absurd (omega arith)
alone_slash false true one = absurd (omega arith)
alone_slash false false one = refl

alone : (p s d l b : Bool) (other : Class) → opener (cond p (cond d Fraction Operator) (cond s (cond l LineComment (cond b BlockComment Operator)) other)) ≡ 1 →
    cond p Operator (cond s Operator other) ≡ cond p (cond d Fraction Operator) (cond s (cond l LineComment (cond b BlockComment Operator)) other)
alone true s d l b other one = alone_point d one
alone false true d l b other one = alone_slash l b one
alone false false d l b other one = refl

-- a class that one byte tells is told by that byte alone
class_alone : (first second : ℕ) → opener (class_of first second) ≡ 1 → class_of first 0 ≡ class_of first second
unfolding class_of
class_alone first second one = alone (nat_eq first 46) (nat_eq first 47) (is_ascii_digit second) (nat_eq second 47) (nat_eq second 42) (class_of_byte first) one

one_opens : (l d s n r t c : Bool) → opener (cond l Word (cond d Number (cond s Blank (cond n LineEnd (cond r RawText (cond t QuotedText (cond c QuotedRune Operator))))))) ≡ 1
one_opens true d s n r t c = refl
one_opens false true s n r t c = refl
one_opens false false true n r t c = refl
one_opens false false false true r t c = refl
one_opens false false false false true t c = refl
one_opens false false false false false true c = refl
one_opens false false false false false false true = refl
one_opens false false false false false false false = refl

alone_opens : (p s : Bool) (other : Class) → opener other ≡ 1 → opener (cond p Operator (cond s Operator other)) ≡ 1
alone_opens true s other one = refl
alone_opens false true other one = refl
alone_opens false false other one = one

class_of_alone : (first : ℕ) → opener (class_of first 0) ≡ 1
unfolding class_of
class_of_alone first = alone_opens (nat_eq first 46) (nat_eq first 47) (class_of_byte first) (one_opens (is_letter first || nat_le 128 first) (is_ascii_digit first) (is_blank first) (nat_eq first 10) (nat_eq first 96) (nat_eq first 34) (nat_eq first 39))

pub one_or_two : (class : Class) → (opener class ≡ 1) ⊎ (opener class ≡ 2)
one_or_two Word = inl refl
one_or_two Number = inl refl
one_or_two Fraction = inr refl
one_or_two LineComment = inr refl
one_or_two BlockComment = inr refl
one_or_two Blank = inl refl
one_or_two LineEnd = inl refl
one_or_two RawText = inl refl
one_or_two QuotedText = inl refl
one_or_two QuotedRune = inl refl
one_or_two Operator = inl refl

-- the bytes that tell the class are there
pub opener_within : (rest : List ℕ) → 0 < length rest → opener (class_at rest) ≤ length rest
opener_within [] some = absurd (omega arith)
opener_within (a ∷ []) some = omega (arith, class_of_alone a)
opener_within (a ∷ b ∷ rest) some = ⊎_elim (λ one. omega (arith, length-two a b rest)) (λ two. omega (arith, length-two a b rest)) (one_or_two (class_of a b)) where
  length-two : (a b : ℕ) (rest : List ℕ) → 2 ≤ length (a ∷ b ∷ rest)
  length-two a b rest = omega arith

-- a front with the bytes that tell the class has the class
class_front : (m : ℕ) (rest : List ℕ) → opener (class_at rest) ≤ m → m ≤ length rest → class_at (take m rest) ≡ class_at rest
class_front m rest opened within =
    let some : 0 < m = ⊎_elim (λ one. omega arith) (λ two. omega arith) (one_or_two (class_at rest)) in
    let first : slice_index (take m rest) 0 ≡ slice_index rest 0 = get_or-take m rest 0 0 some in
    ⊎_elim
    (λ two. let second : slice_index (take m rest) 1 ≡ slice_index rest 1 = get_or-take m rest 1 0 two in (λ i. class_of (first i) (second i)))
    (λ one.
    let none : slice_index (take m rest) 1 ≡ 0 = get_or_past (take m rest) 1 0 (omega (arith, length-take-le m rest within)) in
    let opens : opener (class_at rest) ≡ 1 = ⊎_elim (λ one. one) (λ two. absurd (omega arith)) (one_or_two (class_at rest)) in
    (λ i. class_of (first i) (none i)) ∙ class_alone _ _ opens)
    (order 1 m)

-- Classes whose bytes go on up to a dead state.

-- the state that a front of a run's tail, or of a longer one, comes to
dead_past : (class : Class) (first : ℕ) (tail : List ℕ) (n m : ℕ) (state : State) → IsRun class first tail n state → n < m → m ≤ length tail → fold (step_of class) (start_of class first) (take m tail) ≡ Dead
dead_past class first tail n m state run longer within =
    let lt : n < length tail = omega arith in
    let here : n < length (take m tail) = omega (arith, length-take-le m tail within) in
    let front : take n (take m tail) ≡ take n tail = take-take n m tail (omega arith) in
    let read : slice_index (take m tail) n ≡ slice_index tail n = get_or-take m tail n 0 longer in
    let at : fold (step_of class) (start_of class first) (take n (take m tail)) ≡ state = ap (fold (step_of class) (start_of class first)) front ∙ run.comes in
    sym (fold_stuck (step_of class) Dead (dead_stays class) (start_of class first) (take m tail) n 0 here ((λ i. step_of class (at i) (read i)) ∙ run.stops lt))

dead_is : is_dead Dead ≡ true
dead_is = refl

-- what a front of a text of a class is
front_of_class : (class : Class) (rest : List ℕ) (m : ℕ) → class_at rest ≡ class → is_operator class ≡ false → opener class ≤ m → m ≤ length rest →
    is_word_class class ≡ false → (state : State) → fold (step_of class) (start_of class (slice_index rest 0)) (take (m - opener class) (drop (opener class) rest)) ≡ state →
    item_of (take m rest) ≡ cond (is_dead state) None (Some (class_item class state (take m rest)))
unfolding item_of item_in
front_of_class class rest m is other opened within no_word state comes =
    let some : 0 < m = ⊎_elim (λ one. omega arith) (λ two. omega arith) (one_or_two class) in
    let same : class_at (take m rest) ≡ class = class_front m rest (subst (λ c. opener c ≤ m) (sym is) opened) within ∙ is in
    let first : slice_index (take m rest) 0 ≡ slice_index rest 0 = get_or-take m rest 0 0 some in
    let parts : m ≡ opener class + (m - opener class) = omega arith in
    let tail : drop (opener class) (take m rest) ≡ take (m - opener class) (drop (opener class) rest) = ap (λ k. drop (opener class) (take k rest)) parts ∙ drop-take (opener class) (m - opener class) rest in
    let at : fold (step_of class) (start_of class (slice_index (take m rest) 0)) (drop (opener class) (take m rest)) ≡ state = (λ i. fold (step_of class) (start_of class (first i)) (tail i)) ∙ comes in
    ap (λ c. cond (is_operator c) (mark_item (take m rest)) (cond (is_word_class c) (word_front (take m rest)) (item_in c (take m rest)))) same ∙ cond-false _ _ _ other ∙ cond-false _ _ _ no_word ∙ ap (λ s. cond (is_dead s) None (Some (class_item class s (take m rest)))) at

-- a piece of a class begins the text
pub class_begins : (rest : List ℕ) (class : Class) (n : ℕ) (state : State) (item : Item) → class ≡ class_at rest → is_operator class ≡ false → is_word_class class ≡ false → opener class ≤ length rest →
    IsRun class (slice_index rest 0) (take (length rest - opener class) (drop (opener class) rest)) n state → item ≡ class_item class state (take (opener class + n) rest) →
    Begins item_of (record { item = item; size = opener class + n }) rest
class_begins rest class n state item is other no_word opened sliced item_is =
    let run : IsRun class (slice_index rest 0) (drop (opener class) rest) n state = subst (λ t. IsRun class (slice_index rest 0) t n state) (take_rest rest (opener class)) sliced in
    let inside : opener class + n ≤ length rest = omega (arith, run.within, length-drop (opener class) rest) in
    record {
      within = inside;
      is = front_of_class class rest (opener class + n) (sym is) other (omega arith) inside no_word state
          (ap (λ k. fold (step_of class) (start_of class (slice_index rest 0)) (take k (drop (opener class) rest))) (let e : opener class + n - opener class ≡ n = omega arith in e) ∙ run.comes) ∙
          cond-false _ _ _ run.alive ∙ ap Some (sym item_is);
      longest = λ m longer within. front_of_class class rest m (sym is) other (omega arith) within no_word Dead
          (dead_past class _ _ n (m - opener class) state run (omega arith) (omega (arith, length-drop (opener class) rest)));
    }

-- Marks.

-- texts of different lengths differ
differ : (s bytes : List ℕ) → (length s ≡ length bytes → ⊥) → bytes_eq s bytes ≡ false
differ s bytes other = refuted _ (λ same. other (ap length ((bytes_eq-Decides s bytes).0 same)))

-- a value or else another is a value
or_some : (a : Option Item) (x : Item) → option_or a (Some x) ≡ None → ⊥
or_some None x none = cc
or_some (Some y) x none = cc

-- a table whose spellings have at most k bytes has no longer one
no_longer : (table : List (List ℕ)) (k i : ℕ) (bytes : List ℕ) → list_all (λ s. nat_le (length s) k) table ≡ true → k < length bytes → position_from (λ s. bytes_eq s bytes) i table ≡ None
no_longer [] k i bytes short long = refl
no_longer (s ∷ table) k i bytes short long =
    let le : length s ≤ k = leb-true _ _ (first_so _ _ short) in
    cond-false _ _ _ (differ s bytes (λ same. omega (arith, le))) ∙ no_longer table k (i + 1) bytes (second_so _ _ short) long

no_long_mark : (bytes : List ℕ) → 3 < length bytes → mark_item bytes ≡ None
unfolding mark_item
no_long_mark bytes long =
    let none : place_of marks bytes ≡ None = no_longer marks 3 0 bytes refl long in
    ap (λ place. option_or (option_map (λ place. Lexeme (mark_kind place)) place) (cond (nat_eq (length bytes) 1) (Some (Wrong BadLexeme)) None)) none ∙ cond-false _ _ _ (nat_eq_false (length bytes) 1 (λ one. omega arith))

-- one of two tests passes
either : (a b : Bool) → (a || b) ≡ true → (a ≡ true) ⊎ (b ≡ true)
either true b h = inl refl
either false b h = inr h

-- a table whose longer spellings have a byte that goes on behind the first has none with another there
no_second : (table : List (List ℕ)) (i : ℕ) (bytes : List ℕ) → list_all (λ s. nat_le (length s) 1 || goes_on (slice_index s 1)) table ≡ true → 1 < length bytes → goes_on (slice_index bytes 1) ≡ false → position_from (λ s. bytes_eq s bytes) i table ≡ None
no_second [] i bytes fine more other = refl
no_second (s ∷ table) i bytes fine more other =
    let differs : bytes_eq s bytes ≡ false = refuted _ (λ same.
    let here : s ≡ bytes = (bytes_eq-Decides s bytes).0 same in
    let test : (nat_le (length bytes) 1 || goes_on (slice_index bytes 1)) ≡ true = subst (λ v. (nat_le (length v) 1 || goes_on (slice_index v 1)) ≡ true) here (first_so _ _ fine) in
    ⊎_elim (λ short. let le : length bytes ≤ 1 = leb-true _ _ short in omega (arith, le, more)) (λ so. cc (so, other)) (either _ _ test)) in
    cond-false _ _ _ differs ∙ no_second table (i + 1) bytes (second_so _ _ fine) more other

no_mark_on : (bytes : List ℕ) → 1 < length bytes → goes_on (slice_index bytes 1) ≡ false → mark_item bytes ≡ None
unfolding mark_item
no_mark_on bytes more other =
    let none : place_of marks bytes ≡ None = no_second marks 0 bytes refl more other in
    ap (λ place. option_or (option_map (λ place. Lexeme (mark_kind place)) place) (cond (nat_eq (length bytes) 1) (Some (Wrong BadLexeme)) None)) none ∙ cond-false _ _ _ (nat_eq_false (length bytes) 1 (λ one. omega arith))

-- where the second byte is of no mark, none is longer than the first
pub short_mark : (rest : List ℕ) → goes_on (slice_index rest 1) ≡ false → NoMark 1 rest
short_mark rest other = λ m longer three within.
    let second : slice_index (take m rest) 1 ≡ slice_index rest 1 = get_or-take m rest 1 0 longer in
    no_mark_on (take m rest) (omega (arith, longer, length-take-le m rest within)) (ap goes_on second ∙ other)

blank_class : (first second : ℕ) → is_blank first ≡ true → class_of first second ≡ Blank
unfolding class_of
blank_class first second blank =
    ⊎_elim
    (λ low. ⊎_elim (λ space. subst (λ b. class_of b second ≡ Blank) (sym ((Decides-eqb first 32).0 space)) refl) (λ tab. subst (λ b. class_of b second ≡ Blank) (sym ((Decides-eqb first 9).0 tab)) refl) (either (first == 32) (first == 9) low))
    (λ turn. subst (λ b. class_of b second ≡ Blank) (sym ((Decides-eqb first 13).0 turn)) refl)
    (either (first == 32 || first == 9) (first == 13) blank)

-- a blank begins the text
pub blank_begins : (rest : List ℕ) → 0 < length rest → is_blank (slice_index rest 0) ≡ true → Begins item_of (record { item = Space; size = 1 }) rest
unfolding class_item step_of class_of
blank_begins rest some blank =
    let at : class_at rest ≡ Blank = blank_class (slice_index rest 0) (slice_index rest 1) blank in
    class_begins rest Blank 0 Open Space (sym at) refl refl (omega (arith, some))
    (record { within = omega arith; comes = refl; alive = refl; stops = λ lt. refl }) refl

-- one byte is an item, if it is no mark then a wrong one
pub one_byte : (rest : List ℕ) → 0 < length rest → mark_item (take 1 rest) ≡ None → ⊥
unfolding mark_item
one_byte [] some none = omega arith
one_byte (b ∷ rest) some none = or_some _ _ none

-- a front of a text that begins with an operator is a mark
mark_front : (rest : List ℕ) (m : ℕ) → class_at rest ≡ Operator → 0 < m → m ≤ length rest → item_of (take m rest) ≡ mark_item (take m rest)
unfolding item_of
mark_front rest m is some within =
    ap (λ c. cond (is_operator c) (mark_item (take m rest)) (cond (is_word_class c) (word_front (take m rest)) (item_in c (take m rest)))) (class_front m rest (subst (λ c. opener c ≤ m) (sym is) (omega arith)) within ∙ is)

operator_is : (class : Class) → is_operator class ≡ true → class ≡ Operator
operator_is Word is = cc
operator_is Number is = cc
operator_is Fraction is = cc
operator_is LineComment is = cc
operator_is BlockComment is = cc
operator_is Blank is = cc
operator_is LineEnd is = cc
operator_is RawText is = cc
operator_is QuotedText is = cc
operator_is QuotedRune is = cc
operator_is Operator is = refl

-- a mark begins the text
pub mark_begins : (rest : List ℕ) (piece : Piece) (class : Class) → class ≡ class_at rest → is_operator class ≡ true → IsMark piece rest → Begins item_of piece rest
mark_begins rest piece class here is mark = let at : class_at rest ≡ Operator = sym here ∙ operator_is class is in record {
  within = mark.within;
  is = mark_front rest piece.size at mark.some mark.within ∙ mark.is;
  longest = λ m longer inside. mark_front rest m at (omega arith) inside ∙
      ⊎_elim (λ long. no_long_mark (take m rest) (omega (arith, length-take-le m rest inside))) (λ short. mark.none m longer short inside) (order 3 m);
}

-- nothing is no item
pub no_item : item_of [] ≡ None
unfolding item_of class_of mark_item word_front
no_item = refl

-- a piece of a class begins the text, as the code finds it
pub class_piece_begins : (rest : List ℕ) (class : Class) (piece : Piece) → class ≡ class_at rest → is_operator class ≡ false → is_word_class class ≡ false → opener class ≤ length rest → IsClassPiece class rest piece → Begins item_of piece rest
class_piece_begins rest class piece is other no_word opened found =
    let whole : piece ≡ record { item = piece.item; size = opener class + found.n } = λ i. record { item = piece.item; size = found.size i } in
    subst (λ p. Begins item_of p rest) (sym whole) (class_begins rest class found.n found.state piece.item is other no_word opened found.run (found.item ∙ ap (λ k. class_item class found.state (take k rest)) found.size))

-- Words.

word_class_is : (class : Class) → is_word_class class ≡ true → class ≡ Word
word_class_is Word is = refl
word_class_is Number is = cc
word_class_is Fraction is = cc
word_class_is LineComment is = cc
word_class_is BlockComment is = cc
word_class_is Blank is = cc
word_class_is LineEnd is = cc
word_class_is RawText is = cc
word_class_is QuotedText is = cc
word_class_is QuotedRune is = cc
word_class_is Operator is = cc

-- a front of a text that begins with a letter is a word
front_of_word : (rest : List ℕ) (m : ℕ) → class_at rest ≡ Word → 0 < m → m ≤ length rest → item_of (take m rest) ≡ word_front (take m rest)
unfolding item_of
front_of_word rest m is some within =
    ap (λ c. cond (is_operator c) (mark_item (take m rest)) (cond (is_word_class c) (word_front (take m rest)) (item_in c (take m rest)))) (class_front m rest (subst (λ c. opener c ≤ m) (sym is) (omega arith)) within ∙ is)

-- two bytes and more that are no word are no item
no_word_front : (bytes : List ℕ) → is_word bytes ≡ false → 1 < length bytes → word_front bytes ≡ None
unfolding word_front
no_word_front bytes none more = cond-false _ _ _ none ∙ cond-false _ _ _ (nat_eq_false (length bytes) 1 (λ one. omega arith))

-- a word begins the text
pub word_begins : (rest : List ℕ) (piece : Piece) (class : Class) → class ≡ class_at rest → is_word_class class ≡ true → IsWordPiece piece rest → Begins item_of piece rest
word_begins rest piece class here is word = let at : class_at rest ≡ Word = sym here ∙ word_class_is class is in record {
  within = word.within;
  is = front_of_word rest piece.size at word.some word.within ∙ word.is;
  longest = λ m longer inside. front_of_word rest m at (omega (arith, word.some)) inside ∙
      no_word_front (take m rest) (word.longest m longer inside) (omega (arith, word.some, length-take-le m rest inside));
}

-- the bytes are a word
pub word_front_is : (bytes : List ℕ) → is_word bytes ≡ true → word_front bytes ≡ Some (word_item bytes)
unfolding word_front
word_front_is bytes word = cond-true _ _ _ word

-- one byte is no word
pub word_front_none : (bytes : List ℕ) → is_word bytes ≡ false → length bytes ≡ 1 → word_front bytes ≡ Some (Wrong BadLexeme)
unfolding word_front
word_front_none bytes none one = cond-false _ _ _ none ∙ cond-true _ _ _ (eq-eqb _ _ one)
