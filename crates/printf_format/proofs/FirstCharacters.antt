-- The character at the front of some bytes.
use Rattle.std.proofs.Common.{◌≡◌, ◌<◌, ◌≤◌, ℕ, List, ◌++◌, length, take, drop, refl, sym, ap, ◌∙◌, subst, inl, inr, IsUtf8, encode_utf8, arith}
use Rattle.std.specs.Str.{IsValidUpTo, all_scalars}
use Rattle.std.specs.Char.{IsScalar, len_utf8}
use Rattle.std.specs.Cmp.{first_so}
use Rattle.std.proofs.lemmas.List.{length-take-le, length-take, take-take, take-append-drop, take_at, append_assoc, length-append}
use Rattle.std.proofs.lemmas.Str.{cons_from_encodes, length-encode, len_utf8_bounds, IsUtf8-encode}
use Rattle.printf_format.specs.Characters.{IsCharacter, IsLongestText}

pub longest_front : (front text : List ℕ) (n : ℕ) → IsValidUpTo front n → text ≡ take n front → IsLongestText front text
longest_front front text n valid is =
    let size : length text ≡ n = ap length is ∙ length-take-le n front (omega (arith, valid.short)) in
    record {
      is_text = subst IsUtf8 (sym is) valid.front;
      begins = is ∙ ap (λ k. take k front) (sym size);
      within = omega (arith, size, valid.short);
      longest = λ m more within. valid.longest m (omega (arith, size, more));
    }

-- a character of a text is a scalar value
scalar_first : (text more : List ℕ) (c : ℕ) → IsUtf8 text → text ≡ encode_utf8 c ++ more → IsScalar c
scalar_first text more c utf8 is =
    let parts = cons_from_encodes utf8.0 more c (utf8.1.1 ∙ is) in
    first_so _ (all_scalars parts.0) (sym (ap all_scalars parts.1) ∙ utf8.1.0)

pub some_character : (rest front text more : List ℕ) (c size : ℕ) → front ≡ take 4 rest → IsLongestText front text → text ≡ encode_utf8 c ++ more → size ≡ len_utf8 c → IsCharacter rest c size
some_character rest front text more c size four is spelled counted =
    let short : length text ≤ 4 = omega (arith, is.within, ap length four, length-take 4 rest) in
    let front_is : text ≡ take (length text) rest = is.begins ∙ ap (take (length text)) four ∙ take-take (length text) 4 rest short in
    let whole : rest ≡ encode_utf8 c ++ (more ++ drop (length text) rest) =
    sym (take-append-drop (length text) rest)
    ∙ ap (λ l. l ++ drop (length text) rest) (sym front_is ∙ spelled)
    ∙ append_assoc (encode_utf8 c) more (drop (length text) rest) in
    inl (record { scalar = scalar_first text more c is.is_text spelled; more = more ++ drop (length text) rest; spelled = whole }, counted ∙ sym (length-encode c))

pub no_character : (rest front text : List ℕ) → 0 < length rest → front ≡ take 4 rest → IsLongestText front text → length text ≡ 0 → IsCharacter rest 0xFFFD 1
no_character rest front text some four is empty =
    inr (
      some,
      (λ other begins.
          let bounds = len_utf8_bounds other in
          let size = length-encode other in
          let spelled : take (length (encode_utf8 other)) rest ≡ encode_utf8 other = ap (take (length (encode_utf8 other))) begins.spelled ∙ take_at (encode_utf8 other) begins.more (length (encode_utf8 other)) refl in
          let same : take (length (encode_utf8 other)) front ≡ encode_utf8 other = ap (take (length (encode_utf8 other))) four ∙ take-take (length (encode_utf8 other)) 4 rest (omega arith) ∙ spelled in
          is.longest (length (encode_utf8 other)) (omega arith) (omega (arith, ap length four, length-take 4 rest, ap length begins.spelled, length-append (encode_utf8 other) begins.more)) (subst IsUtf8 (sym same) (IsUtf8-encode other begins.scalar))),
      refl,
      refl,
    )
