-- Laws of runs of bytes.
use Rattle.std.proofs.Common.{◌≡◌, ℕ, zero, suc, ◌+◌, ◌-◌, ◌*◌, ◌^◌, ◌<◌, ◌≤◌, List, [], ◌∷◌, ◌++◌, length, take, drop, get_or, refl, sym, ap, ◌∙◌, arith, rules, Bool, true, false, add-one}
use Rattle.std.proofs.lemmas.List.{take-append-drop, take_more}
use Rattle.std.proofs.Math.Seq.{drop-cons}
use Rattle.std.specs.List.{AllByRecursion}
use Rattle.std.proofs.lemmas.Str.Parse.{IsNumeralModel, numerals_by_fold, digits_value_short}
use Rattle.scripts.specs.Runs.{is_digit, value_of, IsNumeral}

-- two runs that end in one list are one
pub record SameRun (u v : List ℕ) (x y : ℕ) (a b : List ℕ) : Type 0 where
  pub run : u ≡ v
  pub stop : x ≡ y
  pub rest : a ≡ b

pub run-unique : (p : ℕ → Bool) (u v : List ℕ) (x y : ℕ) (a b : List ℕ) → AllByRecursion (λ c. p c ≡ true) u → AllByRecursion (λ c. p c ≡ true) v → p x ≡ false → p y ≡ false → u ++ x ∷ a ≡ v ++ y ∷ b → SameRun u v x y a b
run-unique p [] [] x y a b h k f g e = record { run = refl; stop = cc; rest = cc }
run-unique p [] (d ∷ v) x y a b h k f g e = let s : x ≡ d = cc in let t : p d ≡ true = k.0 in let u : p d ≡ false = rw s at f in cc
run-unique p (c ∷ u) [] x y a b h k f g e = let s : c ≡ y = cc in let t : p c ≡ true = h.0 in let u : p y ≡ true = rw s at t in cc
run-unique p (c ∷ u) (d ∷ v) x y a b h k f g e =
    let s : c ≡ d = cc in
    let r = run-unique p u v x y a b h.1 k.1 f g (let t : u ++ x ∷ a ≡ v ++ y ∷ b = cc in t) in
    record { run = let t = r.run in cc; stop = r.stop; rest = r.rest }

-- a run in front of a list is no longer than the run with which the list begins
pub run-within : (p : ℕ → Bool) (bytes more v : List ℕ) (y : ℕ) (b : List ℕ) → AllByRecursion (λ c. p c ≡ true) bytes → p y ≡ false → bytes ++ more ≡ v ++ y ∷ b → length bytes ≤ length v
run-within p [] more v y b h g e = omega arith
run-within p (c ∷ bytes) more [] y b h g e = let s : c ≡ y = cc in let t : p c ≡ true = h.0 in let u : p y ≡ true = rw s at t in cc
run-within p (c ∷ bytes) more (d ∷ v) y b h g e =
    let r : length bytes ≤ length v = run-within p bytes more v y b h.1 g (let t : bytes ++ more ≡ v ++ y ∷ b = cc in t) in
    omega arith

-- the bytes are a run, the byte after it, and the rest
pub cut : (bytes : List ℕ) (n : ℕ) → n < length bytes → bytes ≡ take n bytes ++ get_or bytes n 0 ∷ drop (n + 1) bytes
cut bytes n h = sym (take-append-drop n bytes) ∙ ap (λ z. take n bytes ++ z) (rw add-one (drop-cons bytes n 0 h))

All-more : (p : ℕ → Bool) (xs : List ℕ) (y : ℕ) → AllByRecursion (λ c. p c ≡ true) xs → p y ≡ true → AllByRecursion (λ c. p c ≡ true) (xs ++ y ∷ [])
All-more p [] y h k = (k, tt)
All-more p (x ∷ xs) y h k = (h.0, All-more p xs y h.1 k)

-- a run that goes on
pub All-take-more : (p : ℕ → Bool) (xs : List ℕ) (n : ℕ) → n < length xs → AllByRecursion (λ c. p c ≡ true) (take n xs) → p (get_or xs n 0) ≡ true → AllByRecursion (λ c. p c ≡ true) (take (n + 1) xs)
All-take-more p xs n h a k = rw (take_more xs n 0 h) (All-more p (take n xs) (get_or xs n 0) a k)

pub All-at : (p : ℕ → Bool) (xs : List ℕ) (i : ℕ) → i < length xs → AllByRecursion (λ c. p c ≡ true) xs → p (get_or xs i 0) ≡ true
All-at p [] i h a = absurd (omega arith)
All-at p (x ∷ xs) zero h a = a.0
All-at p (x ∷ xs) (suc i) h a = All-at p xs i (omega arith) a.1

pub All-take : (p : ℕ → Bool) (xs : List ℕ) (n : ℕ) → AllByRecursion (λ c. p c ≡ true) xs → AllByRecursion (λ c. p c ≡ true) (take n xs)
All-take p [] zero a = a
All-take p [] (suc n) a = a
All-take p (x ∷ xs) zero a = tt
All-take p (x ∷ xs) (suc n) a = (a.0, All-take p xs n a.1)

-- std's model of digits
pub own : IsNumeralModel (AllByRecursion (λ b. is_digit b ≡ true)) (value_of 0)
own = numerals_by_fold _ (search rules) value_of (search rules)

value_of-more : (n : ℕ) (ds : List ℕ) (d : ℕ) → value_of n (ds ++ d ∷ []) ≡ 10 * value_of n ds + (d - 48)
value_of-more n [] d = refl
value_of-more n (e ∷ ds) d = value_of-more (10 * n + (e - 48)) ds d

pub value_of-take : (ds : List ℕ) (i : ℕ) → i < length ds → value_of 0 (take (i + 1) ds) ≡ 10 * value_of 0 (take i ds) + (get_or ds i 0 - 48)
value_of-take ds i h = rw (take_more ds i 0 h) (value_of-more 0 (take i ds) (get_or ds i 0))

pub value_of-small : (ds : List ℕ) → IsNumeral ds → value_of 0 ds < 10 ^ 9
value_of-small ds h = digits_value_short own ds 9 h.each h.most
