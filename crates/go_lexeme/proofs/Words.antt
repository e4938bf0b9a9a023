-- The longest word that begins a text.
use Rattle.std.proofs.Common.{◌≡◌, ℕ, ◌+◌, ◌<◌, ◌≤◌, ◌⊎◌, inl, inr, ◌==◌, nat_le, Bool, true, false, not, zero, suc, get_or, ◌&&◌, ◌||◌, List, [], ◌∷◌, ◌++◌, length, take, drop, refl, sym, ap, subst, ⊎_elim, ◌∙◌, arith, length-append}
use Rattle.std.specs.Prelude.{slice_index}
use Rattle.std.specs.Str.{chars, is_utf8, IsAscii, IsUtf8, IsValidUpTo, NonePass, encode_utf8_all, all_scalars}
use Rattle.std.specs.Char.{len_utf8, encode_utf8, is_ascii_digit, is_ascii_alphabetic}
use Rattle.std.specs.Int.{is_in_range}
use Rattle.std.specs.List.{list_all}
use Rattle.std.specs.Cmp.{first_so, second_so}
use Rattle.std.proofs.lemmas.Bool.{cond-true, cond-false, leb-true}
use Rattle.std.proofs.lemmas.Bool.Decides.{Decides-eqb}
use Rattle.std.proofs.lemmas.List.{take_at, length-take-le, take-append-drop, take-take, get_or-take}
use Rattle.std.proofs.str.Laws.{order}
use Rattle.ucd_table.specs.Rows.{value_in}
use Rattle.ucd_category.specs.GeneralCategoryRows.{general_category_rows}
use Rattle.go_tree.specs.Lexeme.{is_letter, is_word_byte}
use Rattle.go_lexeme.specs.Run.{IsLooseRun, IsLooseText, IsWordRun}
use Rattle.go_lexeme.specs.Slots.{flag_at}
use Rattle.std.proofs.lemmas.Str.{chars-IsAscii, IsUtf8-from_ascii, len_utf8_ascii, encodes-append, encodes-chars, chars-encodes, encodes_same, IsUtf8-drop, IsCharBoundary-from_take, IsUtf8-from_is_utf8, is_utf8-from_IsUtf8, length-encode, scalars-chars, chars_past_char, encode_same, chars-nil, chars-append, NoCharPasses-byte}
use Rattle.ucd_category.specs.GeneralCategory.{general_category}
use Rattle.go_tree.specs.Word.{is_letter_char, is_digit_category, is_word_char, is_word, word_bytes, begins_with_letter, IsWordSize}

both : (a b : Bool) → a ≡ true → b ≡ true → (a && b) ≡ true
both a b first second = ap (λ t. t && b) first ∙ second

-- nothing is left, or what is left begins with no letter and no digit
abbrev Stops : List ℕ → Type 0
Stops [] = Unit {0}
Stops (c ∷ cs) = is_word_char c ≡ false

-- letters and digits, and what stops them
record Split (cs : List ℕ) : Type 0 where
  front : List ℕ
  other : List ℕ
  whole : cs ≡ front ++ other
  each : list_all is_word_char front ≡ true
  size : length (encode_utf8_all front) ≡ word_bytes cs
  stops : Stops other

split_cons : (c : ℕ) (cs : List ℕ) (b : Bool) → is_word_char c ≡ b → Split cs → Split (c ∷ cs)
split_cons c cs true word more = record {
  front = c ∷ more.front;
  other = more.other;
  whole = ap (λ l. c ∷ l) more.whole;
  each = both (is_word_char c) (list_all is_word_char more.front) word more.each;
  size = length-append (encode_utf8 c) (encode_utf8_all more.front) ∙ (λ i. length-encode c i + more.size i) ∙ sym (cond-true (is_word_char c) (len_utf8 c + word_bytes cs) 0 word);
  stops = more.stops;
}
split_cons c cs false word more = record {
  front = [];
  other = c ∷ cs;
  whole = refl;
  each = refl;
  size = sym (cond-false (is_word_char c) (len_utf8 c + word_bytes cs) 0 word);
  stops = word;
}

split_of : (cs : List ℕ) → Split cs
split_of [] = record { front = []; other = []; whole = refl; each = refl; size = refl; stops = tt }
split_of (c ∷ cs) = split_cons c cs (is_word_char c) refl (split_of cs)

-- letters and digits at the front take no more bytes than all of them
fits : (ds es front other : List ℕ) → ds ++ es ≡ front ++ other → list_all is_word_char ds ≡ true → Stops other → length (encode_utf8_all ds) ≤ length (encode_utf8_all front)
fits [] es front other same each stops = omega arith
fits (d ∷ ds) es [] [] same each stops = absurd (let e = same in cc)
fits (d ∷ ds) es [] (o ∷ other) same each stops = absurd (let word = first_so (is_word_char d) (list_all is_word_char ds) each in let e : d ≡ o = cc in let f = ap is_word_char e in cc)
fits (d ∷ ds) es (f ∷ front) other same each stops =
    let head : d ≡ f = cc in
    let tail : ds ++ es ≡ front ++ other = cc in
    let less = fits ds es front other tail (second_so (is_word_char d) (list_all is_word_char ds) each) stops in
    let first : length (encode_utf8 d) ≡ length (encode_utf8 f) = ap (λ c. length (encode_utf8 c)) head in
    omega (arith, length-append (encode_utf8 d) (encode_utf8_all ds), length-append (encode_utf8 f) (encode_utf8_all front), less, first)

-- letters and digits at the front take no more bytes than the text
pub word_bytes_within : (text : List ℕ) → IsUtf8 text → word_bytes (chars text) ≤ length text
word_bytes_within text utf8 =
    let s = split_of (chars text) in
    let whole : encode_utf8_all s.front ++ encode_utf8_all s.other ≡ text = sym (encodes-append s.front s.other) ∙ ap encode_utf8_all (sym s.whole) ∙ encodes-chars text utf8 in
    omega (arith, s.size, ap length whole, length-append (encode_utf8_all s.front) (encode_utf8_all s.other))

-- a longer front is no word
pub no_longer_word : (text : List ℕ) → IsUtf8 text → (m : ℕ) → m ≤ length text → word_bytes (chars text) < m → is_word (take m text) ≡ true → ⊥
unfolding is_word
no_longer_word text utf8 m within longer word =
    let s = split_of (chars text) in
    let front = IsUtf8-from_is_utf8 (take m text) (first_so _ _ word) in
    let back = IsUtf8-drop text m utf8 (IsCharBoundary-from_take text m utf8 within front) in
    let ds = chars (take m text) in
    let es = chars (drop m text) in
    let spelled : encode_utf8_all (ds ++ es) ≡ text = encodes-append ds es ∙ (λ i. encodes-chars (take m text) front i ++ encodes-chars (drop m text) back i) ∙ take-append-drop m text in
    let same : ds ++ es ≡ s.front ++ s.other = encodes_same (ds ++ es) (chars text) (spelled ∙ sym (encodes-chars text utf8)) ∙ s.whole in
    let less = fits ds es s.front s.other same (second_so _ _ (second_so _ _ word)) s.stops in
    omega (arith, less, s.size, ap length (encodes-chars (take m text) front), length-take-le m text within)

-- what follows a character of a text is a text
pub utf8_past : (bs rest : List ℕ) (c : ℕ) → IsUtf8 bs → bs ≡ encode_utf8 c ++ rest → IsUtf8 rest
utf8_past bs rest c utf8 is =
    let parts : chars bs ≡ c ∷ chars rest = chars_past_char bs rest c utf8 is in
    let each : all_scalars (c ∷ chars rest) ≡ true = ap all_scalars (sym parts) ∙ scalars-chars bs utf8 in
    let spelled : encode_utf8 c ++ encode_utf8_all (chars rest) ≡ encode_utf8 c ++ rest = ap encode_utf8_all (sym parts) ∙ encodes-chars bs utf8 ∙ is in
    (chars rest, (second_so _ _ each, (encode_same c c _ _ spelled).1))

-- one turn of the loop over the characters
pub word_turn : (bs rest : List ℕ) (c size len all : ℕ) → IsUtf8 bs → bs ≡ encode_utf8 c ++ rest → is_word_char c ≡ true → len ≡ len_utf8 c → size + word_bytes (chars bs) ≡ all → size + len + word_bytes (chars rest) ≡ all
word_turn bs rest c size len all utf8 is word len_is so_far =
    let parts : chars bs ≡ c ∷ chars rest = chars_past_char bs rest c utf8 is in
    let more : word_bytes (chars bs) ≡ len_utf8 c + word_bytes (chars rest) = ap word_bytes parts ∙ cond-true _ _ _ word in
    omega (arith, more, len_is, so_far)

-- the turn that finds another character
pub word_stop : (bs rest : List ℕ) (c size all : ℕ) → IsUtf8 bs → bs ≡ encode_utf8 c ++ rest → is_word_char c ≡ false → size + word_bytes (chars bs) ≡ all → size ≡ all
word_stop bs rest c size all utf8 is other so_far =
    let none : word_bytes (chars bs) ≡ 0 = ap word_bytes (chars_past_char bs rest c utf8 is) ∙ cond-false _ _ _ other in
    omega (arith, none, so_far)

-- no character is left
pub word_end : (bs : List ℕ) (size all : ℕ) → length bs ≡ 0 → size + word_bytes (chars bs) ≡ all → size ≡ all
word_end [] size all none so_far = let zero : word_bytes (chars []) ≡ 0 = ap word_bytes chars-nil in omega (arith, zero, so_far)
word_end (b ∷ bs) size all none so_far = absurd (omega arith)

scalars_front : (cs ds : List ℕ) → all_scalars (cs ++ ds) ≡ true → all_scalars cs ≡ true
scalars_front [] ds each = refl
scalars_front (c ∷ cs) ds each = both _ _ (first_so _ _ each) (scalars_front cs ds (second_so _ _ each))

letter_append : (cs ds : List ℕ) → begins_with_letter cs ≡ true → begins_with_letter (cs ++ ds) ≡ true
letter_append [] ds letter = absurd (let e = letter in cc)
letter_append (c ∷ cs) ds letter = letter

letter_is_word : (c : ℕ) → is_letter_char c ≡ true → is_word_char c ≡ true
letter_is_word c letter = ap (λ t. t || is_digit_category (general_category c)) letter

letter_front : (cs ds : List ℕ) → begins_with_letter (cs ++ ds) ≡ true → Stops ds → begins_with_letter cs ≡ true
letter_front [] [] letter stops = letter
letter_front [] (d ∷ ds) letter stops = absurd (let word = letter_is_word d letter in cc)
letter_front (c ∷ cs) ds letter stops = letter

refuted : (b : Bool) → (b ≡ true → ⊥) → b ≡ false
refuted true h = absurd (h refl)
refuted false h = refl

-- letters and digits from a letter on are a word, the longest
pub word_begins : (text : List ℕ) → IsUtf8 text → begins_with_letter (chars text) ≡ true → IsWordSize text (word_bytes (chars text))
unfolding is_word
word_begins text utf8 letter =
    let s = split_of (chars text) in
    let whole : encode_utf8_all s.front ++ encode_utf8_all s.other ≡ text = sym (encodes-append s.front s.other) ∙ ap encode_utf8_all (sym s.whole) ∙ encodes-chars text utf8 in
    let front : take (word_bytes (chars text)) text ≡ encode_utf8_all s.front = ap (take (word_bytes (chars text))) (sym whole) ∙ take_at _ _ _ s.size in
    let each : all_scalars s.front ≡ true = scalars_front s.front s.other (ap all_scalars (sym s.whole) ∙ scalars-chars text utf8) in
    let same : chars (take (word_bytes (chars text)) text) ≡ s.front = ap chars front ∙ chars-encodes s.front each in
    let ok : is_utf8 (take (word_bytes (chars text)) text) ≡ true = is_utf8-from_IsUtf8 _ (s.front, (each, sym front)) in
    let starts : begins_with_letter s.front ≡ true = letter_front s.front s.other (ap begins_with_letter (sym s.whole) ∙ letter) s.stops in
    record {
      within = word_bytes_within text utf8;
      is = λ some. both _ _ ok (both _ _ (ap begins_with_letter same ∙ starts) (ap (list_all is_word_char) same ∙ s.each));
      longest = λ m longer within. refuted _ (no_longer_word text utf8 m within longer);
    }

-- no word begins a text that doesn't begin with a letter
pub word_none : (text : List ℕ) → IsUtf8 text → begins_with_letter (chars text) ≡ false → IsWordSize text 0
unfolding is_word
word_none text utf8 letter = record {
  within = omega arith;
  is = λ some. absurd (omega arith);
  longest = λ m longer within. refuted _ (λ word.
      let front = IsUtf8-from_is_utf8 (take m text) (first_so _ _ word) in
      let back = IsUtf8-drop text m utf8 (IsCharBoundary-from_take text m utf8 within front) in
      let parts : chars (take m text) ++ chars (drop m text) ≡ chars text = sym (chars-append (take m text) (drop m text) front) ∙ ap chars (take-append-drop m text) in
      let starts = letter_append (chars (take m text)) (chars (drop m text)) (first_so _ _ (second_so _ _ word)) in
      let e : begins_with_letter (chars text) ≡ true = ap begins_with_letter (sym parts) ∙ starts in
      cc);
}

-- ASCII.

abbrev same : Bool → Bool → Bool
same true b = b
same false b = not b

same_is : (a b : Bool) → same a b ≡ true → a ≡ b
same_is true true is = refl
same_is true false is = cc
same_is false true is = cc
same_is false false is = refl

-- a test passes of each number below one
abbrev below : ℕ → (ℕ → Bool) → Bool
below zero p = true
below (suc n) p = p n && below n p

below_at : (n : ℕ) (p : ℕ → Bool) → below n p ≡ true → (k : ℕ) → k < n → p k ≡ true
below_at zero p each k lt = absurd (omega arith)
below_at (suc n) p each k lt = ⊎_elim (λ less. below_at n p (second_so _ _ each) k less) (λ le. let e : k ≡ n = omega arith in ap p e ∙ first_so _ _ each) (order k n)

ascii_table : below 128 (λ b. same (is_word_char b) (is_word_byte b)) ≡ true
unfolding general_category value_in general_category_rows
ascii_table = refl

-- the words of ASCII
pub ascii_word : (b : ℕ) → b < 128 → is_word_char b ≡ is_word_byte b
ascii_word b lt = same_is _ _ (below_at 128 (λ b. same (is_word_char b) (is_word_byte b)) ascii_table b lt)

-- in a word each character passes
none_pass : (cs : List ℕ) → list_all is_word_char cs ≡ true → NonePass (λ c. not (is_word_char c)) cs
none_pass [] each = tt
none_pass (c ∷ cs) each = (ap not (first_so (is_word_char c) (list_all is_word_char cs) each), none_pass cs (second_so (is_word_char c) (list_all is_word_char cs) each))

-- a word has no ASCII byte that is of none
no_ascii_other : (bytes : List ℕ) (i : ℕ) → is_word bytes ≡ true → i < length bytes → get_or bytes i 0 < 128 → is_word_byte (get_or bytes i 0) ≡ false → ⊥
unfolding is_word
no_ascii_other bytes i word lt ascii other =
    let utf8 = IsUtf8-from_is_utf8 bytes (first_so _ _ word) in
    let passes = NoCharPasses-byte (λ c. not (is_word_char c)) bytes i (chars bytes, encodes-chars bytes utf8, none_pass (chars bytes) (second_so _ _ (second_so _ _ word))) lt ascii in
    let agrees = ap not (ascii_word (get_or bytes i 0) ascii ∙ other) in
    cc

-- no word goes beyond a loose run
beyond_run : (bytes : List ℕ) (n m : ℕ) → IsLooseRun bytes n → n < m → m ≤ length bytes → is_word (take m bytes) ≡ false
beyond_run bytes n m run longer within = refuted _ (λ word.
    let lt : n < length bytes = omega arith in
    let here : n < length (take m bytes) = omega (arith, length-take-le m bytes within) in
    let read : get_or (take m bytes) n 0 ≡ get_or bytes n 0 = get_or-take m bytes n 0 longer in
    no_ascii_other (take m bytes) n word here (subst (λ b. b < 128) (sym read) (run.ascii lt)) (ap is_word_byte read ∙ run.other lt))

-- what isn't UTF-8 is no word
not_utf8 : (bytes : List ℕ) → (IsUtf8 bytes → ⊥) → is_word bytes ≡ false
unfolding is_word
not_utf8 bytes other = refuted _ (λ word. other (IsUtf8-from_is_utf8 bytes (first_so _ _ word)))

-- the whole run is a text
pub loose_whole : (bytes text : List ℕ) (n : ℕ) → IsLooseRun bytes n → text ≡ take n bytes → IsLooseText bytes text
loose_whole bytes text n run is =
    let size : length text ≡ n = ap length is ∙ length-take-le n bytes run.within in
    record {
      within = omega (arith, run.within);
      front = is ∙ ap (λ k. take k bytes) (sym size);
      longest = λ m longer within. beyond_run bytes n m run (omega (arith, size)) within;
    }

-- the run is a text up to a place
pub loose_front : (bytes text : List ℕ) (n k : ℕ) → IsLooseRun bytes n → IsValidUpTo (take n bytes) k → text ≡ take k (take n bytes) → IsLooseText bytes text
loose_front bytes text n k run valid is =
    let run_size = length-take-le n bytes run.within in
    let inside : k ≤ n = omega (arith, valid.short, run_size) in
    let front : text ≡ take k bytes = is ∙ take-take k n bytes inside in
    let size : length text ≡ k = ap length front ∙ length-take-le k bytes (omega (arith, run.within)) in
    record {
      within = omega (arith, run.within);
      front = front ∙ ap (λ k. take k bytes) (sym size);
      longest = λ m longer within. ⊎_elim
          (λ far. beyond_run bytes n m run far within)
          (λ near. not_utf8 (take m bytes) (λ utf8. valid.longest m (omega (arith, size)) (subst IsUtf8 (sym (take-take m n bytes near)) utf8)))
          (order n m);
    }

-- the longest word of the loose text is that of the bytes
pub word_of_text : (bytes text : List ℕ) (n : ℕ) → IsLooseText bytes text → IsWordSize text n → IsWordSize bytes n
word_of_text bytes text n loose word =
    let same : (m : ℕ) → m ≤ length text → take m text ≡ take m bytes = λ m le. ap (take m) loose.front ∙ take-take m (length text) bytes le in
    record {
      within = omega (arith, word.within, loose.within);
      is = λ some. ap is_word (sym (same n word.within)) ∙ word.is some;
      longest = λ m longer within. ⊎_elim
          (λ far. loose.longest m far within)
          (λ near. ap is_word (sym (same m near)) ∙ word.longest m longer near)
          (order (length text) m);
    }

-- Words of ASCII alone.

-- a table of flags tells the bytes of words
pub word_flag : (flags : List Bool) (b : ℕ) → below 256 (λ b. same (get_or flags b false) (is_word_byte b)) ≡ true → b < 256 → flag_at flags b ≡ is_word_byte b
unfolding flag_at
word_flag flags b fits lt = same_is _ _ (below_at 256 (λ b. same (get_or flags b false) (is_word_byte b)) fits b lt)

letter_table : below 128 (λ b. same (is_letter_char b) (is_letter b)) ≡ true
unfolding general_category value_in general_category_rows
letter_table = refl

-- the letters of ASCII
ascii_letter : (b : ℕ) → b < 128 → is_letter_char b ≡ is_letter b
ascii_letter b lt = same_is _ _ (below_at 128 (λ b. same (is_letter_char b) (is_letter b)) letter_table b lt)

or_true : (a b : Bool) → (a || b) ≡ true → (a ≡ true) ⊎ (b ≡ true)
or_true true b h = inl refl
or_true false b h = inr h

range_low : (low high b : ℕ) → high < 128 → is_in_range low high b ≡ true → b < 128
range_low low high b below within = let e = leb-true b high (second_so (nat_le low b) (nat_le b high) within) in omega (arith, e, below)

word_byte_low : (b : ℕ) → is_word_byte b ≡ true → b < 128
word_byte_low b word = ⊎_elim
    (λ letter. ⊎_elim
    (λ low. let e = (Decides-eqb b 95).0 low in omega (arith, e))
    (λ both. ⊎_elim (λ upper. range_low 65 90 b (omega arith) upper) (λ lower. range_low 97 122 b (omega arith) lower) (or_true (is_in_range 65 90 b) (is_in_range 97 122 b) both))
    (or_true (b == 95) (is_ascii_alphabetic b) letter))
    (λ digit. range_low 48 57 b (omega arith) digit)
    (or_true (is_letter b) (is_ascii_digit b) word)

word_front : (bytes : List ℕ) (n : ℕ) → ((k : ℕ) → k < n → is_word_byte (slice_index bytes k) ≡ true) → list_all is_word_byte (take n bytes) ≡ true
word_front bytes zero each = refl
word_front [] (suc n) each = refl
word_front (b ∷ bytes) (suc n) each = both _ _ (each 0 (omega arith)) (word_front bytes n (λ k lt. each (suc k) (omega (arith, lt))))

ascii_front : (ds : List ℕ) → list_all is_word_byte ds ≡ true → IsAscii ds
ascii_front [] each i = omega arith
ascii_front (d ∷ ds) each zero = word_byte_low d (first_so _ _ each)
ascii_front (d ∷ ds) each (suc i) = ascii_front ds (second_so _ _ each) i

front_size : (ds : List ℕ) → list_all is_word_byte ds ≡ true → word_bytes ds ≡ length ds
front_size [] each = refl
front_size (d ∷ ds) each =
    let word = first_so (is_word_byte d) (list_all is_word_byte ds) each in
    let lt = word_byte_low d word in
    let more = front_size ds (second_so (is_word_byte d) (list_all is_word_byte ds) each) in
    let one = len_utf8_ascii d lt in
    cond-true (is_word_char d) (len_utf8 d + word_bytes ds) 0 (ascii_word d lt ∙ word) ∙ omega (arith, one, more)

-- a run that another ASCII byte ends is loose
loose_word : (bytes : List ℕ) (n : ℕ) → IsWordRun bytes n → slice_index bytes n < 128 → IsLooseRun bytes n
loose_word bytes n run ascii = record { within = run.within; ascii = λ lt. ascii; other = run.stops }

-- no run is shorter than a letter at the front
some_run : (bytes : List ℕ) (n : ℕ) → IsWordRun bytes n → is_letter (slice_index bytes 0) ≡ true → 0 < n
some_run [] n run letter = absurd (let e = letter in cc)
some_run (b ∷ bytes) zero run letter = absurd (let other = run.stops (omega arith) in let word : is_word_byte b ≡ true = ap (λ t. t || is_ascii_digit b) letter in cc)
some_run (b ∷ bytes) (suc n) run letter = omega arith

begins_by : (bytes : List ℕ) (n : ℕ) → IsWordRun bytes n → 0 < n → begins_with_letter (take n bytes) ≡ is_letter (slice_index bytes 0)
begins_by bytes zero run some = absurd (omega (arith, some))
begins_by [] (suc n) run some = absurd (let w = run.within in omega (arith, w))
begins_by (b ∷ bytes) (suc n) run some = ascii_letter b (word_byte_low b (run.each 0 (omega arith)))

ascii_chars : (bytes : List ℕ) (n : ℕ) → IsWordRun bytes n → chars (take n bytes) ≡ take n bytes
ascii_chars bytes n run = chars-IsAscii (take n bytes) (ascii_front _ (word_front bytes n run.each))

-- from a letter on the run is the longest word
pub ascii_word_is : (bytes : List ℕ) (n : ℕ) → IsWordRun bytes n → slice_index bytes n < 128 → is_letter (slice_index bytes 0) ≡ true → IsWordSize bytes n
ascii_word_is bytes n run ascii letter =
    let text = take n bytes in
    let each = word_front bytes n run.each in
    let same = ascii_chars bytes n run in
    let size : word_bytes (chars text) ≡ n = ap word_bytes same ∙ front_size text each ∙ length-take-le n bytes run.within in
    let starts : begins_with_letter (chars text) ≡ true = ap begins_with_letter same ∙ begins_by bytes n run (some_run bytes n run letter) ∙ letter in
    word_of_text bytes text n (loose_whole bytes text n (loose_word bytes n run ascii) refl)
    (subst (IsWordSize text) size (word_begins text (IsUtf8-from_ascii text (ascii_front text each)) starts))

no_start : (bytes : List ℕ) (n : ℕ) → IsWordRun bytes n → is_letter (slice_index bytes 0) ≡ false → begins_with_letter (take n bytes) ≡ false
no_start bytes zero run other = refl
no_start bytes (suc n) run other = begins_by bytes (suc n) run (omega arith) ∙ other

-- from another byte on there is none
pub ascii_no_word : (bytes : List ℕ) (n : ℕ) → IsWordRun bytes n → slice_index bytes n < 128 → is_letter (slice_index bytes 0) ≡ false → IsWordSize bytes 0
ascii_no_word bytes n run ascii other =
    let text = take n bytes in
    let each = word_front bytes n run.each in
    word_of_text bytes text 0 (loose_whole bytes text n (loose_word bytes n run ascii) refl)
    (word_none text (IsUtf8-from_ascii text (ascii_front text each)) (ap begins_with_letter (ascii_chars bytes n run) ∙ no_start bytes n run other))
