-- Runs of digits.
use Rattle.std.proofs.Common.{◌≡◌, ◌<◌, ◌≤◌, ◌-◌, ℕ, true, List, take, drop, get_or, arith}
use Rattle.std.proofs.lemmas.Bool.Decides.{nat_tests}
use Rattle.std.proofs.lemmas.List.{get_or-take, length-take}
use Rattle.std.proofs.lemmas.List.Sums.{prefix_len_passes}
use Rattle.std.specs.List.{prefix_len}
use Rattle.printf_format.specs.Bytes.{is_digit, run_end}
use Rattle.printf_format.specs.Grammar.{AreDigits}

digit_bounds : (b : ℕ) → is_digit b ≡ true → (48 ≤ b) × (b ≤ 57)
digit_bounds b digit = (grind (arith, nat_tests), grind (arith, nat_tests))

-- the bytes of a run of digits are digits
pub run_digits : (text : List ℕ) (from close : ℕ) → close ≡ run_end is_digit text from → AreDigits (take (close - from) (drop from text))
run_digits text from close is k below =
    let short : k < close - from = omega (arith, length-take (close - from) (drop from text)) in
    let run : k < prefix_len is_digit (drop from text) = omega arith in
    let bounds = digit_bounds (get_or (drop from text) k 0) (prefix_len_passes is_digit (drop from text) k 0 run) in
    let same = get_or-take (close - from) (drop from text) k 0 short in
    (omega (arith, bounds.0, same), omega (arith, bounds.1, same))
