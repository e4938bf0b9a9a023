-- A text is read again from the words that spell it.
use Rattle.std.proofs.Common.{◌≡◌, ℕ, zero, suc, ◌+◌, ◌-◌, ◌/◌, ◌^◌, ◌<◌, ◌≤◌, ◌++◌, Bool, true, false, List, [], ◌∷◌, length, take, drop, get_or, refl, sym, ap, ◌∙◌, arith, le-leb, lt-ltb, ltb-true, length-drop}
use Rattle.std.specs.Prelude.{nat_le, if◌then◌else◌}
use Rattle.std.specs.Int.{w64, from_le_bytes, to_le_bytes}
use Rattle.std.specs.List.{list_all}
use Rattle.std.proofs.lemmas.Bool.{and_parts, and_from, lt-leb}
use Rattle.std.proofs.lemmas.List.{append_assoc, append-nil, nil_from_length, take-append-drop}
use Rattle.std.proofs.lemmas.Nat.{le_bytes_8}
use Rattle.type_model.specs.Spelling.{long_bytes, middle_bytes, short_bytes, word_bytes, is_byte, word, words, text}

chosen : {A : Type 0} (b : Bool) (x y : A) → b ≡ true → (if b then x else y) ≡ x
chosen true x y e = refl
chosen false x y e = absurd cc

other : {A : Type 0} (b : Bool) (x y : A) → b ≡ false → (if b then x else y) ≡ y
other true x y e = absurd cc
other false x y e = refl

-- which bytes make a word
pub is_long : (bs : List ℕ) → 8 ≤ length bs → word_bytes bs ≡ long_bytes bs
is_long bs long = chosen (nat_le 8 (length bs)) (long_bytes bs) (if nat_le 4 (length bs) then middle_bytes bs else short_bytes bs) (le-leb 8 (length bs) long)

-- those of a text of this length
abbrev pub middle_of : ℕ → List ℕ → List ℕ
middle_of size text =
    get_or text 0 0 ∷ get_or text 1 0 ∷ get_or text 2 0 ∷ get_or text 3 0 ∷ get_or text (size - 4) 0 ∷ get_or text (size - 3) 0 ∷ get_or text (size - 2) 0 ∷ get_or text (size - 1) 0 ∷ []

pub is_middle : (bs : List ℕ) (size : ℕ) → size ≡ length bs → 4 ≤ length bs → length bs < 8 → word_bytes bs ≡ middle_of size bs
is_middle bs size e some few =
    other (nat_le 8 (length bs)) (long_bytes bs) (if nat_le 4 (length bs) then middle_bytes bs else short_bytes bs) (lt-leb 8 (length bs) few)
    ∙ (chosen (nat_le 4 (length bs)) (middle_bytes bs) (short_bytes bs) (le-leb 4 (length bs) some)
    ∙ ap (λ n. middle_of n bs) (sym e))

abbrev pub short_of : ℕ → List ℕ → List ℕ
short_of size text = get_or text 0 0 ∷ get_or text (size / 2) 0 ∷ get_or text (size - 1) 0 ∷ 0 ∷ 0 ∷ 0 ∷ 0 ∷ 0 ∷ []

pub is_short : (bs : List ℕ) (size : ℕ) → size ≡ length bs → length bs < 4 → word_bytes bs ≡ short_of size bs
is_short bs size e few =
    other (nat_le 8 (length bs)) (long_bytes bs) (if nat_le 4 (length bs) then middle_bytes bs else short_bytes bs) (lt-leb 8 (length bs) (omega (arith, few)))
    ∙ (other (nat_le 4 (length bs)) (middle_bytes bs) (short_bytes bs) (lt-leb 4 (length bs) few)
    ∙ ap (λ n. short_of n bs) (sym e))

-- eight bytes are one number
pub is_word : (a b c d e f g h n : ℕ) → a < 256 → b < 256 → c < 256 → d < 256 → e < 256 → f < 256 → g < 256 → h < 256 → n ≡ from_le_bytes w64 (a ∷ b ∷ c ∷ d ∷ e ∷ f ∷ g ∷ h ∷ [])
    → word (a ∷ b ∷ c ∷ d ∷ e ∷ f ∷ g ∷ h ∷ []) ≡ n ∷ []
is_word a b c d e f g h n p q r s t u v w is =
    let bytes : List ℕ = a ∷ b ∷ c ∷ d ∷ e ∷ f ∷ g ∷ h ∷ [] in
    chosen (list_all is_byte bytes) (from_le_bytes w64 bytes ∷ []) (2 ^ 64 ∷ bytes)
    (and_from _ _ (lt-ltb a 256 p) (and_from _ _ (lt-ltb b 256 q) (and_from _ _ (lt-ltb c 256 r) (and_from _ _ (lt-ltb d 256 s)
    (and_from _ _ (lt-ltb e 256 t) (and_from _ _ (lt-ltb f 256 u) (and_from _ _ (lt-ltb g 256 v) (and_from _ _ (lt-ltb h 256 w) refl))))))))
    ∙ ap (λ (x : ℕ). x ∷ []) (sym is)

-- a text of at least a byte has eight in its word
eight_bytes : (bs : List ℕ) → length (word_bytes bs) ≡ 8
eight_bytes bs = first (nat_le 8 (length bs)) where
  second : (b : Bool) → length (if b then middle_bytes bs else short_bytes bs) ≡ 8
  second true = refl
  second false = refl

  first : (b : Bool) → length (if b then long_bytes bs else (if nat_le 4 (length bs) then middle_bytes bs else short_bytes bs)) ≡ 8
  first true = refl
  first false = second (nat_le 4 (length bs))

-- the front of a text of so many bytes, from those of its word
abbrev front : ℕ → List ℕ → List ℕ
front size bytes = if nat_le 8 size then bytes else (if nat_le 4 size then take 4 bytes ++ drop (12 - size) bytes else take size bytes)

front_is : (bs : List ℕ) → front (length bs) (word_bytes bs) ≡ take 8 bs
front_is [] = refl
front_is (a ∷ []) = refl
front_is (a ∷ b ∷ []) = refl
front_is (a ∷ b ∷ c ∷ []) = refl
front_is (a ∷ b ∷ c ∷ d ∷ []) = refl
front_is (a ∷ b ∷ c ∷ d ∷ e ∷ []) = refl
front_is (a ∷ b ∷ c ∷ d ∷ e ∷ f ∷ []) = refl
front_is (a ∷ b ∷ c ∷ d ∷ e ∷ f ∷ g ∷ []) = refl
front_is (a ∷ b ∷ c ∷ d ∷ e ∷ f ∷ g ∷ h ∷ bs) =
    let all : List ℕ = a ∷ b ∷ c ∷ d ∷ e ∷ f ∷ g ∷ h ∷ bs in
    let long : 8 ≤ length all = omega arith in
    chosen (nat_le 8 (length all)) (word_bytes all) (if nat_le 4 (length all) then take 4 (word_bytes all) ++ drop (12 - length all) (word_bytes all) else take (length all) (word_bytes all))
    (le-leb 8 (length all) long)
    ∙ is_long all long

one_front : (x y : List ℕ) → length x ≡ length y → word_bytes x ≡ word_bytes y → take 8 x ≡ take 8 y
one_front x y size same = sym (front_is x) ∙ (ap (λ n. front n (word_bytes x)) size ∙ (ap (λ w. front (length y) w) same ∙ front_is y))

-- bytes are read from their number
small_at : (bs : List ℕ) (i : ℕ) → list_all is_byte bs ≡ true → get_or bs i 0 < 256
small_at [] zero e = omega arith
small_at [] (suc i) e = omega arith
small_at (b ∷ bs) zero e = ltb-true b 256 (and_parts (is_byte b) (list_all is_byte bs) e).0
small_at (b ∷ bs) (suc i) e = small_at bs i (and_parts (is_byte b) (list_all is_byte bs) e).1

read_bytes : (bs : List ℕ) → length bs ≡ 8 → list_all is_byte bs ≡ true → to_le_bytes w64 (from_le_bytes w64 bs) ≡ bs
read_bytes bs size small = le_bytes_8 bs (from_le_bytes w64 bs) size (λ i. small_at bs i small) refl

low_number : (bs : List ℕ) → list_all is_byte bs ≡ true → from_le_bytes w64 bs < 2 ^ 64
low_number bs small =
    let a = small_at bs 0 small in
    let b = small_at bs 1 small in
    let c = small_at bs 2 small in
    let d = small_at bs 3 small in
    let e = small_at bs 4 small in
    let f = small_at bs 5 small in
    let g = small_at bs 6 small in
    let h = small_at bs 7 small in
    omega (arith, a, b, c, d, e, f, g, h)

-- lists of one length in front of others
same_front : {A : Type 0} (x y r s : List A) → length x ≡ length y → x ++ r ≡ y ++ s → (x ≡ y) × (r ≡ s)
same_front [] [] r s size e = (refl, e)
same_front [] (b ∷ y) r s size e = absurd (omega (arith, size))
same_front (a ∷ x) [] r s size e = absurd (omega (arith, size))
same_front (a ∷ x) (b ∷ y) r s size e =
    let heads : a ≡ b = cc in
    let tails : x ++ r ≡ y ++ s = cc in
    let more = same_front x y r s (omega (arith, size)) tails in
    let same : x ≡ y = more.0 in
    let all : a ∷ x ≡ b ∷ y = cc in (all, more.1)

head_is : (m n : ℕ) (r s : List ℕ) → m ∷ r ≡ n ∷ s → m ≡ n
head_is m n r s e = cc

tail_is : (m n : ℕ) (r s : List ℕ) → m ∷ r ≡ n ∷ s → r ≡ s
tail_is m n r s e = cc

-- a word is read
word_read : (x y r s : List ℕ) → length x ≡ 8 → length y ≡ 8 → word x ++ r ≡ word y ++ s → (x ≡ y) × (r ≡ s)
word_read x y r s p q e = at (list_all is_byte x) (list_all is_byte y) refl refl where
  made : List ℕ → Bool → List ℕ
  made bytes b = if b then from_le_bytes w64 bytes ∷ [] else 2 ^ 64 ∷ bytes

  at : (a b : Bool) → list_all is_byte x ≡ a → list_all is_byte y ≡ b → (x ≡ y) × (r ≡ s)
  at true true f g =
      let spelled : from_le_bytes w64 x ∷ r ≡ from_le_bytes w64 y ∷ s = ap (λ c. made x c ++ r) (sym f) ∙ (e ∙ ap (λ c. made y c ++ s) g) in
      let one : from_le_bytes w64 x ≡ from_le_bytes w64 y = head_is (from_le_bytes w64 x) (from_le_bytes w64 y) r s spelled in
      (sym (read_bytes x p f) ∙ (ap (λ n. to_le_bytes w64 n) one ∙ read_bytes y q g), tail_is (from_le_bytes w64 x) (from_le_bytes w64 y) r s spelled)
  at true false f g =
      let spelled : from_le_bytes w64 x ∷ r ≡ 2 ^ 64 ∷ (y ++ s) = ap (λ c. made x c ++ r) (sym f) ∙ (e ∙ ap (λ c. made y c ++ s) g) in
      let one : from_le_bytes w64 x ≡ 2 ^ 64 = head_is (from_le_bytes w64 x) (2 ^ 64) r (y ++ s) spelled in
      absurd (omega (arith, low_number x f, one))
  at false true f g =
      let spelled : 2 ^ 64 ∷ (x ++ r) ≡ from_le_bytes w64 y ∷ s = ap (λ c. made x c ++ r) (sym f) ∙ (e ∙ ap (λ c. made y c ++ s) g) in
      let one : 2 ^ 64 ≡ from_le_bytes w64 y = head_is (2 ^ 64) (from_le_bytes w64 y) (x ++ r) s spelled in
      absurd (omega (arith, low_number y g, one))
  at false false f g =
      let spelled : 2 ^ 64 ∷ (x ++ r) ≡ 2 ^ 64 ∷ (y ++ s) = ap (λ c. made x c ++ r) (sym f) ∙ (e ∙ ap (λ c. made y c ++ s) g) in
      same_front x y r s (p ∙ sym q) (tail_is (2 ^ 64) (2 ^ 64) (x ++ r) (y ++ s) spelled)

words_read : (count : ℕ) (x y r s : List ℕ) → length x ≡ length y → (length x + 7) / 8 ≤ count → words count x ++ r ≡ words count y ++ s → (x ≡ y) × (r ≡ s)
words_read zero x y r s size few e = (nil_from_length x (omega (arith, few)) ∙ sym (nil_from_length y (omega (arith, few, size))), e)
words_read (suc count) x y r s size few e =
    let spelled : word (word_bytes x) ++ (words count (drop 8 x) ++ r) ≡ word (word_bytes y) ++ (words count (drop 8 y) ++ s) =
    sym (append_assoc (word (word_bytes x)) (words count (drop 8 x)) r) ∙ (e ∙ append_assoc (word (word_bytes y)) (words count (drop 8 y)) s) in
    let one = word_read (word_bytes x) (word_bytes y) (words count (drop 8 x) ++ r) (words count (drop 8 y) ++ s) (eight_bytes x) (eight_bytes y) spelled in
    let dropped_x = length-drop 8 x in
    let dropped_y = length-drop 8 y in
    let more = words_read count (drop 8 x) (drop 8 y) r s (omega (arith, dropped_x, dropped_y, size)) (omega (arith, dropped_x, few)) one.1 in
    let fronts : take 8 x ≡ take 8 y = one_front x y size one.0 in
    let backs : drop 8 x ≡ drop 8 y = more.0 in
    (sym (take-append-drop 8 x) ∙ (ap (λ l. l ++ drop 8 x) fronts ∙ (ap (λ l. take 8 y ++ l) backs ∙ take-append-drop 8 y)), more.1)

pub text_read : (x y r s : List ℕ) → text x ++ r ≡ text y ++ s → (x ≡ y) × (r ≡ s)
unfolding text
text_read x y r s e =
    let size : length x ≡ length y = head_is (length x) (length y) (words ((length x + 7) / 8) x ++ r) (words ((length y + 7) / 8) y ++ s) e in
    let spelled : words ((length x + 7) / 8) x ++ r ≡ words ((length y + 7) / 8) y ++ s = tail_is (length x) (length y) (words ((length x + 7) / 8) x ++ r) (words ((length y + 7) / 8) y ++ s) e in
    words_read ((length x + 7) / 8) x y r s size (omega arith) (spelled ∙ ap (λ n. words ((n + 7) / 8) y ++ s) (sym size))

-- a word more is spelled
pub words-step : (count i n : ℕ) (out more rest after whole : List ℕ) → i < count → word (word_bytes rest) ≡ n ∷ [] → more ≡ out ++ n ∷ [] → after ≡ drop 8 rest
    → out ++ words (count - i) rest ≡ whole → more ++ words (count - (i + 1)) after ≡ whole
words-step count i n out more rest after whole below is pushed after_is so_far =
    let left : count - i ≡ suc (count - (i + 1)) = omega (arith, below) in
    let one : out ++ (word (word_bytes rest) ++ words (count - (i + 1)) (drop 8 rest)) ≡ whole = sym (ap (λ k. out ++ words k rest) left) ∙ so_far in
    ap (λ l. l ++ words (count - (i + 1)) after) pushed
    ∙ (append_assoc out (n ∷ []) (words (count - (i + 1)) after)
    ∙ (ap (λ l. out ++ (l ++ words (count - (i + 1)) after)) (sym is)
    ∙ (ap (λ l. out ++ (word (word_bytes rest) ++ words (count - (i + 1)) l)) after_is ∙ one)))

-- nothing is left to spell
pub words-end : (count i : ℕ) (out rest whole : List ℕ) → count ≤ i → out ++ words (count - i) rest ≡ whole → out ≡ whole
words-end count i out rest whole done so_far =
    let left : count - i ≡ 0 = omega (arith, done) in
    sym (append-nil out) ∙ (sym (ap (λ k. out ++ words k rest) left) ∙ so_far)

-- the length is spelled, and all words are left
pub words-begin : (bytes out more : List ℕ) → more ≡ out ++ length bytes ∷ [] → more ++ words ((length bytes + 7) / 8 - 0) bytes ≡ out ++ text bytes
unfolding text
words-begin bytes out more is =
    let all : (length bytes + 7) / 8 - 0 ≡ (length bytes + 7) / 8 = omega arith in
    ap (λ k. more ++ words k bytes) all
    ∙ (ap (λ l. l ++ words ((length bytes + 7) / 8) bytes) is ∙ append_assoc out (length bytes ∷ []) (words ((length bytes + 7) / 8) bytes))
