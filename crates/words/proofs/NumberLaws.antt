-- Numbers in words.
use Rattle.std.proofs.Common.{◌≡◌, ◌≢◌, ◌⊎◌, inl, inr, ℕ, ◌^◌, ◌<◌, ◌≤◌, List, [], Bool, true, false, ◌&&◌, nat_le, bytes_eq, Option, Some, None, Result, Ok, Err, get_or, slice_index, refl, ap, sym, ◌∙◌, subst, arith, rules}
use Rattle.std.specs.Prelude.{if◌then◌else◌}
use Rattle.std.specs.List.{AllByRecursion}
use Rattle.std.specs.Fmt.{decimal}
use Rattle.std.proofs.lemmas.Bool.{leb-true}
use Rattle.std.proofs.lemmas.Option.{none-some, same_Some}
use Rattle.std.proofs.lemmas.Slice.Eq.{bytes_eq-Decides}
use Rattle.std.specs.Str.Parse.{AllDigits, IsNumeral, digits_value, ParsesUnsigned}
use Rattle.std.proofs.lemmas.Str.Parse.{IsNumeralModel, numerals_by_fold, numerals_by_value, tells_digits, without_leading_plus_none}
use Rattle.std.proofs.lemmas.Fmt.{digits_value-decimal, parse-decimal, first_decimal, decimal-digits_value}
use Rattle.words.specs.Numbers.{value_of, numeral, IsNumeralOf}

abbrev is_digit : ℕ → Bool
is_digit b = nat_le 48 b && nat_le b 57

own : IsNumeralModel (AllByRecursion (λ b. is_digit b ≡ true)) (value_of 0)
own = numerals_by_fold _ (search rules) value_of (search rules)

-- the number that a decimal writes
value-decimal : (n : ℕ) → n < 2 ^ 64 → value_of 0 (decimal n) ≡ n
value-decimal n h = digits_value-decimal own n h

and-true : (a b : Bool) → a ≡ true → b ≡ true → (a && b) ≡ true
and-true true b e f = f
and-true false b e f = e

le-test : (m n : ℕ) → m ≤ n → nat_le m n ≡ true
le-test m n h = grind (arith, h)

pub numeral-decimal : (most n : ℕ) → 1 ≤ n → n ≤ most → n < 2 ^ 64 → numeral most (decimal n) ≡ Some n
numeral-decimal most n low high small =
    let v : value_of 0 (decimal n) ≡ n = value-decimal n small in
    let P : ℕ → Type 0 = λ k. (if bytes_eq (decimal n) (decimal k) && (nat_le 1 k && nat_le k most) then Some k else None) ≡ Some n in
    subst P (sym v) (ap (λ b. if b then Some n else None) (and-true _ _ ((bytes_eq-Decides (decimal n) (decimal n)).1 refl) (and-true _ _ (le-test 1 n low) (le-test n most high))))

numeral-told : (most n : ℕ) (text : List ℕ) (v : ℕ) (a b c : Bool) → bytes_eq text (decimal v) ≡ a → nat_le 1 v ≡ b → nat_le v most ≡ c → (if a && (b && c) then Some v else None) ≡ Some n → (text ≡ decimal n) × (1 ≤ n) × (n ≤ most)
numeral-told most n text v true true true ea eb ec e =
    let s : v ≡ n = same_Some v n e in
    let low : 1 ≤ v = leb-true 1 v eb in
    let high : v ≤ most = leb-true v most ec in
    ((bytes_eq-Decides text (decimal v)).0 ea ∙ ap decimal s, omega (arith, low, s), omega (arith, high, s))
numeral-told most n text v false b c ea eb ec e = absurd (none-some n e)
numeral-told most n text v true false c ea eb ec e = absurd (none-some n e)
numeral-told most n text v true true false ea eb ec e = absurd (none-some n e)

pub numeral-is : (most n : ℕ) (text : List ℕ) → numeral most text ≡ Some n → (text ≡ decimal n) × (1 ≤ n) × (n ≤ most)
numeral-is most n text e = numeral-told most n text (value_of 0 text) (bytes_eq text (decimal (value_of 0 text))) (nat_le 1 (value_of 0 text)) (nat_le (value_of 0 text) most) refl refl refl e

-- an answer that is the numeral is that of the definition
pub numeral-answer : (most : ℕ) (text : List ℕ) (r : Option ℕ) → most < 2 ^ 64 → IsNumeralOf most text r → r ≡ numeral most text
numeral-answer most text (Some n) small h = sym (ap (numeral most) h.0 ∙ numeral-decimal most n h.1 h.2 (omega (arith, h.2, small)))
numeral-answer most text None small h = never (numeral most text) refl
  where
    never : (s : Option ℕ) → numeral most text ≡ s → None ≡ s
    never None e = refl
    never (Some n) e = let k = numeral-is most n text e in absurd (h n k.1 k.2 k.0)

-- what `parse` answers of a decimal
pub parsed-is : {E : Type 0} (text : List ℕ) (r : Result ℕ E) (n : ℕ) → text ≡ decimal n → n < 2 ^ 32 → ParsesUnsigned 32 10 text r → r ≡ Ok n
parsed-is text r n e small p = parse-decimal 32 n text r small (omega (arith, small)) e p

ok-same : {E : Type 0} (v n : ℕ) → ◌≡◌ {A = Result ℕ E} (Ok v) (Ok n) → v ≡ n
ok-same v n e = cc

err-ok : {E : Type 0} (x : E) (n : ℕ) → ◌≡◌ {A = Result ℕ E} (Err x) (Ok n) → ⊥
err-ok x n e = cc

-- a number that is out of its bounds
pub out-of-bounds : (text : List ℕ) (v most : ℕ) → ParsesUnsigned {E = Unit {0}} 32 10 text (Ok v) → most < 2 ^ 32 → ((1 ≤ v) × (v ≤ most) → ⊥) → (n : ℕ) → 1 ≤ n → n ≤ most → text ≢ decimal n
out-of-bounds text v most p small out n low high e =
    let s : v ≡ n = ok-same {E = Unit {0}} v n (parsed-is text (Ok v) n e (omega (arith, small, high)) p) in
    out (omega (arith, s, low), omega (arith, s, high))

-- no number at all
pub no-number : (text : List ℕ) (most : ℕ) → ParsesUnsigned {E = Unit {0}} 32 10 text (Err (tt {0})) → most < 2 ^ 32 → (n : ℕ) → 1 ≤ n → n ≤ most → text ≢ decimal n
no-number text most p small n low high e = err-ok {E = Unit {0}} (tt {0}) n (parsed-is {E = Unit {0}} text (Err (tt {0})) n e (omega (arith, small, high)) p)

-- what begins as no number does
pub odd-front : (text : List ℕ) (most : ℕ) → most < 2 ^ 32 → (slice_index text 0 ≡ 43) ⊎ (slice_index text 0 ≡ 48) ⊎ (text ≡ []) → (n : ℕ) → 1 ≤ n → n ≤ most → text ≢ decimal n
odd-front text most small odd n low high e =
    let f : 48 < get_or (decimal n) 0 0 = first_decimal n (omega (arith, low)) (omega (arith, small, high)) in
    let s : get_or text 0 0 ≡ get_or (decimal n) 0 0 = ap (λ z. get_or z 0 0) e in
    at f s odd
  where
    at : 48 < get_or (decimal n) 0 0 → get_or text 0 0 ≡ get_or (decimal n) 0 0 → (slice_index text 0 ≡ 43) ⊎ (slice_index text 0 ≡ 48) ⊎ (text ≡ []) → ⊥
    at f s (inl a) = omega (arith, f, s, a)
    at f s (inr (inl a)) = omega (arith, f, s, a)
    at f s (inr (inr a)) = let z : get_or text 0 0 ≡ 0 = ap (λ z. get_or z 0 0) a in omega (arith, f, s, z)

pub ok-decimal : (text : List ℕ) (v : ℕ) → slice_index text 0 ≢ 43 → slice_index text 0 ≢ 48 → ParsesUnsigned {E = Unit {0}} 32 10 text (Ok v) → text ≡ decimal v
ok-decimal text v plus zero p =
    let Q : List ℕ → Type 0 = λ z. (IsNumeral 10 z × (digits_value 10 z < 2 ^ 32)) × (v ≡ digits_value 10 z) in
    let k = subst Q (without_leading_plus_none text plus) p in
    sym (decimal-digits_value (numerals_by_value (AllDigits 10) tells_digits) text k.0.0.1 k.0.0.0 (λ z. absurd (zero z)) (omega (arith, k.0.1))) ∙ ap decimal (sym k.1)
