-- What is missing of some inputs, and whether a load is executed for it.
use Rattle.std.proofs.Common.{◌≡◌, ℕ, ◌<◌, ◌≤◌, ◌+◌, Bool, true, false, if◌then◌else◌, Option, Some, None, List, [], ◌∷◌, ◌++◌, length, slice_get, take, map, drop, zero, suc, refl, sym, ap, ◌∙◌, subst, arith}
use Rattle.std.proofs.lemmas.Option.{same_Some}
use Rattle.std.proofs.lemmas.List.{length-map}
use Rattle.fact_cache.specs.declared.texts.Input.{Input}
use Rattle.fact_cache.specs.declared.list.Entry.{Entry}
use Rattle.gv_driver.specs.Caches.{is_cached, left_of, missing_of, one_of}
use Rattle.gv_driver.specs.Making.{cost, digit, spent, spent_by}
use Rattle.gv_driver.specs.Tables.{with_fresh}

append-if : (b : Bool) (x : Input) (xs ys : List Input) → (if b then (xs ++ ys) else (x ∷ (xs ++ ys))) ≡ (if b then xs else (x ∷ xs)) ++ ys
append-if true x xs ys = refl
append-if false x xs ys = refl

same-if : (b : Bool) (x : Input) (xs ys : List Input) → xs ≡ ys → (if b then xs else (x ∷ xs)) ≡ (if b then ys else (x ∷ ys))
same-if b x xs ys e = ap (λ (l : List Input). if b then l else (x ∷ l)) e

pub missing-append : (cache : List Entry) (xs ys : List Input) → missing_of cache (xs ++ ys) ≡ missing_of cache xs ++ missing_of cache ys
missing-append cache [] ys = refl
missing-append cache (x ∷ xs) ys =
    same-if (is_cached cache x) x (missing_of cache (xs ++ ys)) (missing_of cache xs ++ missing_of cache ys) (missing-append cache xs ys)
    ∙ append-if (is_cached cache x) x (missing_of cache xs) (missing_of cache ys)

fresh-if : (b : Bool) (x : Input) (xs : List Input) → with_fresh (if b then None else Some x) xs ≡ (if b then xs else (x ∷ xs))
fresh-if true x xs = refl
fresh-if false x xs = refl

-- what is left of an input stands before what is missing of others
pub fresh-missing : (cache : List Entry) (x : Input) (xs : List Input) → with_fresh (left_of cache x) (missing_of cache xs) ≡ missing_of cache (x ∷ xs)
fresh-missing cache x xs = fresh-if (is_cached cache x) x (missing_of cache xs)

pub fresh-append : (o : Option Input) (xs ys : List Input) → with_fresh o (xs ++ ys) ≡ with_fresh o xs ++ ys
fresh-append None xs ys = refl
fresh-append (Some x) xs ys = refl

one-count : (b : Bool) (i : Input) → length (if b then [] else (i ∷ [])) ≡ cost b
one-count true i = refl
one-count false i = refl

head-count : (b : Bool) (x : Input) (more less : List Input) (n : ℕ) → length more ≡ length less + n → length (if b then more else (x ∷ more)) ≡ length (if b then less else (x ∷ less)) + n
head-count true x more less n h = h
head-count false x more less n h = let e : length (x ∷ more) ≡ suc (length more) = refl in let f : length (x ∷ less) ≡ suc (length less) = refl in omega (arith, h, e, f)

pub missing-push : (cache : List Entry) (xs : List Input) (i : Input) → length (missing_of cache (xs ++ i ∷ [])) ≡ length (missing_of cache xs) + cost (is_cached cache i)
missing-push cache [] i = let e : length (if is_cached cache i then [] else (i ∷ [])) ≡ cost (is_cached cache i) = one-count (is_cached cache i) i in omega (arith, e)
missing-push cache (x ∷ xs) i = head-count (is_cached cache x) x (missing_of cache (xs ++ i ∷ [])) (missing_of cache xs) (cost (is_cached cache i)) (missing-push cache xs i)

skip-le : (b : Bool) (x : Input) (less : List Input) (n : ℕ) → length less ≤ n → length (if b then less else (x ∷ less)) ≤ suc n
skip-le true x less n h = omega (arith, h)
skip-le false x less n h = let e : length (x ∷ less) ≡ suc (length less) = refl in omega (arith, e, h)

pub missing-le : (cache : List Entry) (xs : List Input) → length (missing_of cache xs) ≤ length xs
missing-le cache [] = omega arith
missing-le cache (x ∷ xs) = skip-le (is_cached cache x) x (missing_of cache xs) (length xs) (missing-le cache xs)

pub take-le : {X : Type 0} (i : ℕ) (xs : List X) → length (take i xs) ≤ length xs
take-le zero xs = omega arith
take-le (suc i) [] = omega arith
take-le (suc i) (x ∷ xs) = let h : length (take i xs) ≤ length xs = take-le i xs in let e : length (take (suc i) (x ∷ xs)) ≡ suc (length (take i xs)) = refl in let f : length (x ∷ xs) ≡ suc (length xs) = refl in omega (arith, h, e, f)

pub get-taken : {X : Type 0} (i k : ℕ) (xs : List X) (x : X) → slice_get (take i xs) k ≡ Some x → slice_get xs k ≡ Some x
get-taken zero k xs x h = nothing k x h
  where
    nothing : {X : Type 0} (j : ℕ) (y : X) → slice_get [] j ≡ Some y → slice_get xs k ≡ Some x
    nothing zero y e = cc
    nothing (suc j) y e = cc
get-taken (suc i) k [] x h = h
get-taken (suc i) zero (y ∷ ys) x h = h
get-taken (suc i) (suc k) (y ∷ ys) x h = get-taken i k ys x h

pub take-all : {X : Type 0} (xs : List X) → take (length xs) xs ≡ xs
take-all [] = refl
take-all (x ∷ xs) = ap (λ l. x ∷ l) (take-all xs)

pub take-more : {X : Type 0} (p : ℕ) (xs : List X) → length xs ≤ p → take p xs ≡ xs
take-more zero [] l = refl
take-more (suc p) [] l = refl
take-more zero (x ∷ xs) l = absurd (omega (arith, l))
take-more (suc p) (x ∷ xs) l = ap (λ ys. x ∷ ys) (take-more p xs (omega (arith, l)))

-- ---- whether the load is executed

pub spent-push : (cache : List Entry) (t : Bool) (xs : List Input) (i : Input) → spent_by cache t (xs ++ i ∷ []) ≡ spent (spent_by cache t xs) (is_cached cache i)
spent-push cache t [] i = refl
spent-push cache t (x ∷ xs) i = spent-push cache (spent t (is_cached cache x)) xs i

pub digit-le : (t c : Bool) → digit t ≤ digit (spent t c)
digit-le true true = omega arith
digit-le true false = omega arith
digit-le false true = omega arith
digit-le false false = omega arith

pub digit-one : (t : Bool) → digit t ≤ 1
digit-one true = omega arith
digit-one false = omega arith

-- no more loads than one
pub loads-room : (before now : ℕ) (t u : Bool) → now + digit t ≡ before + digit u → now ≤ before + 1
loads-room before now t u e = let l : digit u ≤ 1 = digit-one u in omega (arith, e, l)

-- a node that is found takes nothing, and another a run
pub spent-found : (t b : Bool) → b ≡ true → t ≡ spent t b
spent-found t true e = refl
spent-found t false e = cc

pub spent-missing : (t b : Bool) → b ≡ false → true ≡ spent t b
spent-missing t true e = cc
spent-missing t false e = refl

pub cost-found : (b : Bool) → b ≡ true → cost b ≡ 0
cost-found true e = refl
cost-found false e = cc

pub cost-missing : (b : Bool) → b ≡ false → cost b ≡ 1
cost-missing true e = cc
cost-missing false e = refl

stays : (b : Bool) → spent true b ≡ true
stays true = refl
stays false = refl

pub spent-true : (cache : List Entry) (keys : List Input) → spent_by cache true keys ≡ true
spent-true cache [] = refl
spent-true cache (k ∷ keys) = ap (λ b. spent_by cache b keys) (stays (is_cached cache k)) ∙ spent-true cache keys

one-case : (b : Bool) (cache : List Entry) (k : Input) (keys : List Input) → digit (spent_by cache false keys) ≡ one_of (missing_of cache keys)
    → digit (spent_by cache (spent false b) keys) ≡ one_of (if b then missing_of cache keys else (k ∷ missing_of cache keys))
one-case true cache k keys h = h
one-case false cache k keys h = ap digit (spent-true cache keys)

-- the load is executed where one of these inputs is missing
pub one-spent : (cache : List Entry) (keys : List Input) → digit (spent_by cache false keys) ≡ one_of (missing_of cache keys)
one-spent cache [] = refl
one-spent cache (k ∷ keys) = one-case (is_cached cache k) cache k keys (one-spent cache keys)

-- ---- the first of some inputs

pub one-le : (xs : List Input) → one_of xs ≤ 1
one-le [] = omega arith
one-le (x ∷ xs) = omega arith

-- a list has the other's elements at their places
abbrev pub Begins : List Input → List Input → Type 0
Begins xs ys = (k : ℕ) (i : Input) → slice_get xs k ≡ Some i → slice_get ys k ≡ Some i

pub begins-append : (xs ys : List Input) → Begins xs ys → (more : List Input) × (ys ≡ xs ++ more)
begins-append [] ys h = (ys, refl)
begins-append (x ∷ xs) [] h = let e : None ≡ Some x = h 0 x refl in cc
begins-append (x ∷ xs) (y ∷ ys) h =
    let e : y ≡ x = same_Some y x (h 0 x refl) in
    let more = begins-append xs ys (λ k. h (suc k)) in
    (more.0, ap (λ (z : Input). z ∷ ys) e ∙ ap (λ (l : List Input). x ∷ l) more.1)

one-append : (xs ys : List Input) → one_of xs ≤ one_of (xs ++ ys)
one-append [] ys = omega arith
one-append (x ∷ xs) ys = omega arith

length-more : (xs ys : List Input) → length xs ≤ length (xs ++ ys)
length-more [] ys = omega arith
length-more (x ∷ xs) ys = let h : length xs ≤ length (xs ++ ys) = length-more xs ys in let e : length (x ∷ xs) ≡ suc (length xs) = refl in let f : length (x ∷ (xs ++ ys)) ≡ suc (length (xs ++ ys)) = refl in omega (arith, h, e, f)

-- fewer inputs, fewer missing ones
pub one-begins : (cache : List Entry) (xs ys : List Input) → Begins xs ys → one_of (missing_of cache xs) ≤ one_of (missing_of cache ys)
one-begins cache xs ys h =
    let m = begins-append xs ys h in
    let e : missing_of cache ys ≡ missing_of cache xs ++ missing_of cache m.0 = ap (λ (l : List Input). missing_of cache l) m.1 ∙ missing-append cache xs m.0 in
    let le : one_of (missing_of cache xs) ≤ one_of (missing_of cache xs ++ missing_of cache m.0) = one-append (missing_of cache xs) (missing_of cache m.0) in
    let f : one_of (missing_of cache ys) ≡ one_of (missing_of cache xs ++ missing_of cache m.0) = ap one_of e in
    omega (arith, le, f)

pub missing-begins : (cache : List Entry) (xs ys : List Input) → Begins xs ys → length (missing_of cache xs) ≤ length (missing_of cache ys)
missing-begins cache xs ys h =
    let m = begins-append xs ys h in
    let e : missing_of cache ys ≡ missing_of cache xs ++ missing_of cache m.0 = ap (λ (l : List Input). missing_of cache l) m.1 ∙ missing-append cache xs m.0 in
    let le : length (missing_of cache xs) ≤ length (missing_of cache xs ++ missing_of cache m.0) = length-more (missing_of cache xs) (missing_of cache m.0) in
    let f : length (missing_of cache ys) ≡ length (missing_of cache xs ++ missing_of cache m.0) = ap (λ (l : List Input). length l) e in
    omega (arith, le, f)
