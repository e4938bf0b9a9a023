-- Laws of the fields of a command.
use Rattle.std.proofs.Common.{◌≡◌, ℕ, zero, suc, ◌+◌, ◌-◌, ◌^◌, ◌<◌, ◌≤◌, List, [], ◌∷◌, ◌++◌, length, take, drop, get_or, refl, sym, ap, ◌∙◌, arith, Bool, true, append_assoc, replicate}
use Rattle.std.proofs.lemmas.List.{take-append-drop, length-append, take_all, length-replicate, length-take-le}
use Rattle.std.specs.List.{AllByRecursion}
use Rattle.std.specs.Fmt.{decimal}
use Rattle.std.proofs.lemmas.Fmt.{digits_decimal, decimal-digits_value, length-decimal-le, first_decimal, decimal_nonempty, decimal_digit}
use Rattle.scripts.specs.Runs.{IsRun, is_digit, value_of}
use Rattle.scripts.proofs.RunLaws.{run-unique, run-within, cut, own, value_of-small}

-- the run is all of the bytes
run-whole : (p : ℕ → Bool) (bytes : List ℕ) (n : ℕ) → IsRun p bytes n → n ≡ length bytes → AllByRecursion (λ b. p b ≡ true) bytes
run-whole p bytes n r e = let all : take n bytes ≡ bytes = take_all n bytes (omega arith) in rw all at r.each

-- the digits of a number below 10^9
pub decimal-digits : (v : ℕ) → v < 10 ^ 9 → AllByRecursion (λ b. is_digit b ≡ true) (decimal v)
decimal-digits v h = digits_decimal own v (omega arith)

pub length-decimal-nine : (v : ℕ) → v < 10 ^ 9 → length (decimal v) ≤ 9
length-decimal-nine v h = length-decimal-le 9 v (omega arith) h (omega arith)

digits-within : (bytes : List ℕ) (n : ℕ) → IsRun is_digit bytes n → (v : ℕ) (more after : List ℕ) → v < 10 ^ 9 → bytes ++ more ≡ decimal v ++ 10 ∷ after → n ≤ length (decimal v)
digits-within bytes n r v more after h e =
    let w : length (take n bytes) ≤ length (decimal v) = run-within is_digit (take n bytes) (drop n bytes ++ more) (decimal v) 10 after r.each refl (sym (append_assoc (take n bytes) (drop n bytes) more) ∙ ap (λ z. z ++ more) (take-append-drop n bytes) ∙ e) in
    let l : length (take n bytes) ≡ n = length-take-le n bytes r.within in omega arith

-- too many digits
pub length-long : (bytes : List ℕ) (n : ℕ) → IsRun is_digit bytes n → 9 < n → (v : ℕ) (more after : List ℕ) → v < 10 ^ 9 → bytes ++ more ≡ decimal v ++ 10 ∷ after → ⊥
length-long bytes n r long v more after h e =
    let w : n ≤ length (decimal v) = digits-within bytes n r v more after h e in
    let m : length (decimal v) ≤ 9 = length-decimal-nine v h in omega arith

first-same : (bytes ds more after : List ℕ) → 0 < length bytes → 0 < length ds → bytes ++ more ≡ ds ++ after → get_or bytes 0 0 ≡ get_or ds 0 0
first-same [] ds more after h k e = absurd (omega arith)
first-same (b ∷ bytes) [] more after h k e = absurd (omega arith)
first-same (b ∷ bytes) (d ∷ ds) more after h k e = cc

-- a zero in front of other digits
pub length-padded : (bytes : List ℕ) (n : ℕ) → IsRun is_digit bytes n → 1 < n → get_or bytes 0 0 ≡ 48 → (v : ℕ) (more after : List ℕ) → v < 10 ^ 9 → bytes ++ more ≡ decimal v ++ 10 ∷ after → ⊥
length-padded bytes n r long z zero more after h e =
    let d : decimal 0 ≡ 48 ∷ [] = decimal_digit 0 (omega arith) in
    let w : n ≤ length (decimal 0) = digits-within bytes n r 0 more after h e in
    let l : length (decimal 0) ≡ 1 = ap length d in absurd (omega arith)
length-padded bytes n r long z (suc v) more after h e =
    let some : 0 < length (decimal (suc v)) = decimal_nonempty (suc v) (omega arith) in
    let i = r.within in
    let f : get_or bytes 0 0 ≡ get_or (decimal (suc v)) 0 0 = first-same bytes (decimal (suc v)) more (10 ∷ after) (omega arith) some e in
    let d : 48 < get_or (decimal (suc v)) 0 0 = first_decimal (suc v) (omega arith) (omega arith) in
    omega arith

-- the run ends at a byte that is no newline, or at once
pub length-stop : (bytes : List ℕ) (n : ℕ) → IsRun is_digit bytes n → n < length bytes → (0 < n → get_or bytes n 0 ≡ 10 → ⊥) → (v : ℕ) (more after : List ℕ) → v < 10 ^ 9 → bytes ++ more ≡ decimal v ++ 10 ∷ after → ⊥
length-stop bytes n r short never v more after h e =
    let s = run-unique is_digit (take n bytes) (decimal v) (get_or bytes n 0) 10 (drop (n + 1) bytes ++ more) after r.each (decimal-digits v h) (r.ends short) refl
    (sym (append_assoc (take n bytes) (get_or bytes n 0 ∷ drop (n + 1) bytes) more) ∙ ap (λ z. z ++ more) (sym (cut bytes n short)) ∙ e) in
    let l : length (take n bytes) ≡ n = length-take-le n bytes r.within in
    let k : length (take n bytes) ≡ length (decimal v) = ap length s.run in
    let some : 0 < length (decimal v) = decimal_nonempty v (omega arith) in
    never (omega arith) s.stop

-- what may be a number that has not ended
pub length-part : (bytes : List ℕ) (n : ℕ) → IsRun is_digit bytes n → n ≤ 9 → (1 < n → get_or bytes 0 0 ≡ 48 → ⊥) → n ≡ length bytes → (v : ℕ) × (more : List ℕ) × (v < 10 ^ 9) × (0 < length more) × (bytes ++ more ≡ decimal v ++ 10 ∷ [])
length-part [] n r most never e = (0, 48 ∷ 10 ∷ [], omega arith, omega arith, ap (λ z. z ++ 10 ∷ []) (sym (decimal_digit 0 (omega arith))))
length-part (b ∷ bytes) n r most never e =
    let all : AllByRecursion (λ b. is_digit b ≡ true) (b ∷ bytes) = run-whole is_digit (b ∷ bytes) n r e in
    let small : value_of 0 (b ∷ bytes) < 10 ^ 9 = value_of-small (b ∷ bytes) (record { each = all; most = omega arith }) in
    let one : get_or (b ∷ bytes) 0 0 ≡ 48 → length (b ∷ bytes) ≡ 1 = λ z. alone bytes (λ m. never (omega arith) z) in
    let d : decimal (value_of 0 (b ∷ bytes)) ≡ b ∷ bytes = decimal-digits_value own (b ∷ bytes) all (omega arith) one (omega arith) in
    (value_of 0 (b ∷ bytes), 10 ∷ [], small, omega arith, ap (λ z. z ++ 10 ∷ []) (sym d))
  where
    alone : (bs : List ℕ) → (0 < length bs → ⊥) → length (b ∷ bs) ≡ 1
    alone [] m = omega arith
    alone (c ∷ bs) m = absurd (m (omega arith))

-- a number and a newline
pub length-read : (bytes : List ℕ) (n : ℕ) → IsRun is_digit bytes n → n ≤ 9 → (1 < n → get_or bytes 0 0 ≡ 48 → ⊥) → 0 < n → n < length bytes → get_or bytes n 0 ≡ 10 → (value_of 0 (take n bytes) < 10 ^ 9) × (n < length bytes) × (decimal (value_of 0 (take n bytes)) ≡ take n bytes) × (bytes ≡ take n bytes ++ 10 ∷ drop (n + 1) bytes)
length-read [] n r most never some short e = absurd (omega arith)
length-read (b ∷ bytes) zero r most never some short e = absurd (omega arith)
length-read (b ∷ bytes) (suc k) r most never some short e =
    let l : length (take (suc k) (b ∷ bytes)) ≡ suc k = length-take-le (suc k) (b ∷ bytes) r.within in
    let small : value_of 0 (take (suc k) (b ∷ bytes)) < 10 ^ 9 = value_of-small (take (suc k) (b ∷ bytes)) (record { each = r.each; most = omega arith }) in
    let one : b ≡ 48 → length (take (suc k) (b ∷ bytes)) ≡ 1 = λ z. alone k l (λ m. never (omega arith) z) in
    (small, short, decimal-digits_value own (take (suc k) (b ∷ bytes)) r.each (omega arith) one (omega arith), cut (b ∷ bytes) (suc k) short ∙ ap (λ z. take (suc k) (b ∷ bytes) ++ z ∷ drop (suc k + 1) (b ∷ bytes)) e)
  where
    alone : (k : ℕ) → length (take (suc k) (b ∷ bytes)) ≡ suc k → (0 < k → ⊥) → length (take (suc k) (b ∷ bytes)) ≡ 1
    alone zero l m = l
    alone (suc k) l m = absurd (m (omega arith))

-- a body that has not ended
pub body-part : (bytes : List ℕ) (count : ℕ) → length bytes ≤ count → (body more : List ℕ) × (length body ≡ count) × (0 < length more) × (bytes ++ more ≡ body ++ 10 ∷ [])
body-part bytes count h =
    (bytes ++ replicate (count - length bytes) 0, replicate (count - length bytes) 0 ++ 10 ∷ [], simp (length-append, length-replicate) (omega arith), simp (length-append, length-replicate) (omega arith), sym (append_assoc bytes (replicate (count - length bytes) 0) (10 ∷ [])))
