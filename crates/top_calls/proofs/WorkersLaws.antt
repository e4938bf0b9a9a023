-- The kits at work, and the others.
use Rattle.std.proofs.Common.{◌≡◌, ◌∙◌, ℕ, zero, suc, ◌+◌, ◌*◌, ◌<◌, ◌≤◌, ◌^◌, Option, Some, None, List, [], ◌∷◌, ◌++◌, length, take, drop, slice_get, refl, sym, ap, subst, arith}
use Rattle.std.specs.Prelude.{sum_by}
use Rattle.std.proofs.lemmas.List.{length-append}
use Rattle.std.proofs.lemmas.List.Sums.{sum_by-cons}
use Rattle.std.proofs.lemmas.Option.{same_Some}
use Rattle.tree_runs.specs.Tallies.{AreGrown}
use Rattle.words.specs.Grammar.{Asks, IsWorkers}
use Rattle.words.specs.declared.asked.Words.{Words}
use Rattle.top_calls.specs.Workers.{CanWork, DidAtMost, OthersStay}

-- the first of two parts that were joined
pub taken : {W : Type 0} (n : ℕ) (front back : List W) → length front ≡ n → take n (front ++ back) ≡ front
taken zero [] back e = refl
taken zero (x ∷ xs) back e = absurd (omega arith)
taken (suc n) [] back e = absurd (omega arith)
taken (suc n) (x ∷ xs) back e = ap (λ l. x ∷ l) (taken n xs back (omega arith))

-- the second of them
pub dropped : {W : Type 0} (n : ℕ) (front back : List W) → length front ≡ n → drop n (front ++ back) ≡ back
dropped zero [] back e = refl
dropped zero (x ∷ xs) back e = absurd (omega arith)
dropped (suc n) [] back e = absurd (omega arith)
dropped (suc n) (x ∷ xs) back e = dropped n xs back (omega arith)

-- the first part changed, and kept its length
pub others-stay : {W : Type 0} (n : ℕ) (old front back now : List W) → old ≡ front ++ back → length front ≡ n → length now ≡ length front → OthersStay n old (now ++ back)
others-stay n old front back now all size same = (
  length-append now back ∙ (ap (λ (k : ℕ). k + length back) same ∙ (sym (length-append front back) ∙ ap length (sym all))),
  dropped n now back (same ∙ size) ∙ (sym (dropped n front back size) ∙ ap (drop n) (sym all)),
)

-- nothing changed
pub all-stay : {W : Type 0} (n : ℕ) (kits : List W) → OthersStay n kits kits
all-stay n kits = (refl, refl)

-- ---- how much each kit did

did-more : {W : Type 0} (loads runs : W → ℕ) (m n : ℕ) (kits : List W) → m ≤ n → DidAtMost loads runs m kits → DidAtMost loads runs n kits
did-more loads runs m n kits less d = λ k kit e. (let h = d k kit e in (omega (arith, less, h.0), omega (arith, less, h.1)))

found-first : {W : Type 0} (front back : List W) (k : ℕ) (x : W) → slice_get front k ≡ Some x → slice_get (front ++ back) k ≡ Some x
found-first [] back zero x e = cc
found-first [] back (suc k) x e = cc
found-first (y ∷ ys) back zero x e = e
found-first (y ∷ ys) back (suc k) x e = found-first ys back k x e

one-of : {W : Type 0} (f : W → ℕ) (kits : List W) (k : ℕ) (kit : W) → slice_get kits k ≡ Some kit → f kit ≤ sum_by f kits
one-of f [] zero kit e = cc
one-of f [] (suc k) kit e = cc
one-of f (x ∷ xs) zero kit e = (let s : f x ≡ f kit = ap f (same_Some x kit e) in omega (arith, s, sum_by-cons f x xs))
one-of f (x ∷ xs) (suc k) kit e = (let r : f kit ≤ sum_by f xs = one-of f xs k kit e in omega (arith, r, sum_by-cons f x xs))

-- no kit did more than all together
pub did-together : {W : Type 0} (loads runs : W → ℕ) (n : ℕ) (kits : List W) → sum_by loads kits ≤ n → sum_by runs kits ≤ n → DidAtMost loads runs n kits
did-together loads runs n kits l r = λ k kit e. (let a = one-of loads kits k kit e in let b = one-of runs kits k kit e in (omega (arith, a, l), omega (arith, b, r)))

-- what all did none of the first did more than
pub did-first : {W : Type 0} (loads runs : W → ℕ) (n : ℕ) (kits front back : List W) → kits ≡ front ++ back → DidAtMost loads runs n kits → DidAtMost loads runs n front
did-first loads runs n kits front back all d = λ k kit e. d k kit (subst (λ l. slice_get l k ≡ Some kit) (sym all) (found-first front back k kit e))

grown-sums : {W : Type 0} (loads runs : W → ℕ) (old new : List W) → AreGrown loads runs old new → (sum_by loads old ≤ sum_by loads new) × (sum_by runs old ≤ sum_by runs new)
grown-sums loads runs [] [] g = (omega arith, omega arith)
grown-sums loads runs [] (y ∷ ys) g = absurd g
grown-sums loads runs (x ∷ xs) [] g = absurd g
grown-sums loads runs (x ∷ xs) (y ∷ ys) g =
    let s = grown-sums loads runs xs ys g.2 in
    let l : loads x ≤ loads y = g.0 in
    let r : runs x ≤ runs y = g.1 in
    (omega (arith, l, s.0, sum_by-cons loads x xs, sum_by-cons loads y ys), omega (arith, r, s.1, sum_by-cons runs x xs, sum_by-cons runs y ys))

-- of the first of two kits and those after it
did-step : {W : Type 0} (loads runs : W → ℕ) (m n : ℕ) (x y : W) (xs ys : List W) → AreGrown loads runs (x ∷ xs) (y ∷ ys) → sum_by loads (y ∷ ys) + sum_by runs (y ∷ ys) ≤ sum_by loads (x ∷ xs) + sum_by runs (x ∷ xs) + n → DidAtMost loads runs m (x ∷ xs) → DidAtMost loads runs (m + n) ys
    → (k : ℕ) (kit : W) → slice_get (y ∷ ys) k ≡ Some kit → (loads kit ≤ m + n) × (runs kit ≤ m + n)
did-step loads runs m n x y xs ys g most d rest zero kit e =
    let s = grown-sums loads runs xs ys g.2 in
    let l : loads x ≤ loads y = g.0 in
    let r : runs x ≤ runs y = g.1 in
    let f = d 0 x refl in
    let a : loads y ≡ loads kit = ap loads (same_Some y kit e) in
    let b : runs y ≡ runs kit = ap runs (same_Some y kit e) in
    (omega (arith, f.0, a, s.0, s.1, r, most, sum_by-cons loads x xs, sum_by-cons loads y ys, sum_by-cons runs x xs, sum_by-cons runs y ys), omega (arith, f.1, b, s.0, s.1, l, most, sum_by-cons loads x xs, sum_by-cons loads y ys, sum_by-cons runs x xs, sum_by-cons runs y ys))
did-step loads runs m n x y xs ys g most d rest (suc k) kit e = rest k kit e

-- where no kit's counts fall, none rises by more than all together
pub did-after : {W : Type 0} (loads runs : W → ℕ) (m n : ℕ) (old new : List W) → AreGrown loads runs old new → sum_by loads new + sum_by runs new ≤ sum_by loads old + sum_by runs old + n → DidAtMost loads runs m old → DidAtMost loads runs (m + n) new
did-after loads runs m n [] [] g most d = did-more loads runs m (m + n) [] (omega arith) d
did-after loads runs m n [] (y ∷ ys) g most d = absurd g
did-after loads runs m n (x ∷ xs) [] g most d = absurd g
did-after loads runs m n (x ∷ xs) (y ∷ ys) g most d =
    let l : loads x ≤ loads y = g.0 in
    let r : runs x ≤ runs y = g.1 in
    did-step loads runs m n x y xs ys g most d
    (did-after loads runs m n xs ys g.2 (omega (arith, l, r, most, sum_by-cons loads x xs, sum_by-cons loads y ys, sum_by-cons runs x xs, sum_by-cons runs y ys)) (λ k kit e. d (suc k) kit e))

-- a command that is answered has a byte, and does at most 16,384 loads and runs
pub did-by-command : {W : Type 0} (loads runs : W → ℕ) (at len at' : ℕ) (old new : List W) → 0 < len → at' ≡ at + len → AreGrown loads runs old new → sum_by loads new + sum_by runs new ≤ sum_by loads old + sum_by runs old + 16384 → DidAtMost loads runs (2 ^ 61 + 16384 * at) old
    → DidAtMost loads runs (2 ^ 61 + 16384 * at') new
did-by-command loads runs at len at' old new some e g most d = did-more loads runs (2 ^ 61 + 16384 * at + 16384) (2 ^ 61 + 16384 * at') new (omega (arith, some, e)) (did-after loads runs (2 ^ 61 + 16384 * at) 16384 old new g most d)

-- before the next command there is room for what it does
pub did-within : {W : Type 0} (loads runs : W → ℕ) (at : ℕ) (kits : List W) → at ≤ 2 ^ 28 → DidAtMost loads runs (2 ^ 61 + 16384 * at) kits → DidAtMost loads runs (2 ^ 62) kits
did-within loads runs at kits less = did-more loads runs (2 ^ 61 + 16384 * at) (2 ^ 62) kits (omega (arith, less))

pub did-begun : {W : Type 0} (loads runs : W → ℕ) (at : ℕ) (kits : List W) → DidAtMost loads runs (2 ^ 61) kits → DidAtMost loads runs (2 ^ 61 + 16384 * at) kits
did-begun loads runs at kits = did-more loads runs (2 ^ 61) (2 ^ 61 + 16384 * at) kits (omega arith)

-- the words of a call choose from 1 to 64 workers
is-number : (text : Option (List ℕ)) (n : ℕ) → IsWorkers text n → (0 < n) × (n ≤ 64)
is-number None n e = (omega arith, omega arith)
is-number (Some text) n e = (omega (arith, e.1), e.2)

pub workers-asked : {W : Type 0} (words : List (List ℕ)) (call : Words) (kits : List W) → Asks words call → 64 ≤ length kits → CanWork call.workers kits
workers-asked words call kits asks enough =
    let n = is-number asks.options.workers call.workers asks.workers in
    (n.0, n.1, omega (arith, n.1, enough))
