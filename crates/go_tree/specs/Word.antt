-- Names and keywords as characters.
use Rattle.std.specs.Prelude.{◌≡◌, ℕ, Bool, true, false, ◌&&◌, ◌||◌, ◌==◌, List, [], ◌∷◌, chars, ◌+◌, ◌<◌, ◌≤◌, length, take, if◌then◌else◌}
use Rattle.std.specs.Char.{len_utf8}
use Rattle.std.specs.List.{list_all}
use Rattle.std.specs.Str.{byte, is_utf8}
use Rattle.ucd_category.specs.GeneralCategory.{general_category}
use Rattle.ucd_category.specs.declared.GeneralCategory.{GeneralCategory}
use Rattle.ucd_category.specs.declared.GeneralCategory.TheVariants.{UppercaseLetter, LowercaseLetter, TitlecaseLetter, ModifierLetter, OtherLetter, DecimalNumber}

-- Lu, Ll, Lt, Lm, Lo
abbrev pub is_letter_category : GeneralCategory → Bool
is_letter_category UppercaseLetter = true
is_letter_category LowercaseLetter = true
is_letter_category TitlecaseLetter = true
is_letter_category ModifierLetter = true
is_letter_category OtherLetter = true
is_letter_category _ = false

-- Nd
abbrev pub is_digit_category : GeneralCategory → Bool
is_digit_category DecimalNumber = true
is_digit_category _ = false

-- a letter of a name
abbrev pub is_letter_char : ℕ → Bool
is_letter_char c = c == byte "_" || is_letter_category (general_category c)

abbrev pub is_word_char : ℕ → Bool
is_word_char c = is_letter_char c || is_digit_category (general_category c)

abbrev pub begins_with_letter : List ℕ → Bool
begins_with_letter [] = false
begins_with_letter (c ∷ cs) = is_letter_char c

-- a letter, and then letters and digits
abbrev pub is_word_text : List ℕ → Bool
is_word_text cs = begins_with_letter cs && list_all is_word_char cs

-- the bytes spell a word
unfoldable pub is_word : List ℕ → Bool
is_word bytes = is_utf8 bytes && is_word_text (chars bytes)

-- how many bytes of letters and digits stand at the front
abbrev pub word_bytes : List ℕ → ℕ
word_bytes [] = 0
word_bytes (c ∷ cs) = if is_word_char c then len_utf8 c + word_bytes cs else 0

-- the size of the longest word that begins the bytes, or 0
pub record IsWordSize (bytes : List ℕ) (n : ℕ) : Type 0 where
  pub within : n ≤ length bytes
  pub is : 0 < n → is_word (take n bytes) ≡ true
  pub longest : (m : ℕ) → n < m → m ≤ length bytes → is_word (take m bytes) ≡ false
