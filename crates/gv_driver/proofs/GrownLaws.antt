-- The counts of kits, none of which falls.
use Rattle.std.proofs.Common.{◌≡◌, ℕ, zero, suc, ◌+◌, ◌≤◌, List, [], ◌∷◌, Some, map, slice_get, sym, ap, ◌∙◌, subst, arith}
use Rattle.std.specs.Prelude.{sum_by}
use Rattle.std.proofs.lemmas.Option.{same_Some}
use Rattle.std.proofs.lemmas.List.Sums.{sum_by-cons}
use Rattle.wave_run.specs.Waves.{AreServed}
use Rattle.gv_driver.specs.Tallies.{AreGrown, counts_of}

module _ {K : Type 0} (loads runs : K → ℕ) where
  abbrev Grown : List K → List K → Type 0
  Grown kits now = AreGrown loads runs kits now

  pub grown-not : (kits : List K) → Grown kits kits
  grown-not [] = tt
  grown-not (w ∷ ws) = (omega arith, omega arith, grown-not ws)

  pub grown-on : (kits between now : List K) → Grown kits between → Grown between now → Grown kits now
  grown-on [] [] [] a b = tt
  grown-on [] [] (v ∷ vs) a b = absurd b
  grown-on [] (u ∷ us) now a b = absurd a
  grown-on (w ∷ ws) [] now a b = absurd a
  grown-on (w ∷ ws) (u ∷ us) [] a b = absurd b
  grown-on (w ∷ ws) (u ∷ us) (v ∷ vs) a b =
      let l : loads w ≤ loads u = a.0 in
      let r : runs w ≤ runs u = a.1 in
      let m : loads u ≤ loads v = b.0 in
      let s : runs u ≤ runs v = b.1 in
      (omega (arith, l, m), omega (arith, r, s), grown-on ws us vs a.2 b.2)

  -- over a wave
  pub grown-served : (can : ℕ → K → Type 0) (most : ℕ) (kits now : List K) → AreServed can (counts_of loads runs) most kits now → Grown kits now
  grown-served can most [] [] served = tt
  grown-served can most [] (v ∷ vs) served = absurd served
  grown-served can most (w ∷ ws) [] served = absurd served
  grown-served can most (w ∷ ws) (v ∷ vs) served = (served.0.2 0, served.0.2 1, grown-served can most ws vs served.1)

  -- what is said of loads is said of runs as well
  pub grown-swap : (kits now : List K) → Grown kits now → AreGrown runs loads kits now
  grown-swap [] [] grown = tt
  grown-swap [] (v ∷ vs) grown = absurd grown
  grown-swap (w ∷ ws) [] grown = absurd grown
  grown-swap (w ∷ ws) (v ∷ vs) grown = (grown.1, grown.0, grown-swap ws vs grown.2)

  abbrev head_of : ℕ → List ℕ → ℕ
  head_of d [] = d
  head_of d (x ∷ xs) = x

  abbrev tail_of : List ℕ → List ℕ
  tail_of [] = []
  tail_of (x ∷ xs) = xs

  -- where the counts are what they were
  pub grown-same : (kits now : List K) → map loads now ≡ map loads kits → map runs now ≡ map runs kits → Grown kits now
  grown-same [] [] same_loads same_runs = tt
  grown-same [] (v ∷ vs) same_loads same_runs = cc
  grown-same (w ∷ ws) [] same_loads same_runs = cc
  grown-same (w ∷ ws) (v ∷ vs) same_loads same_runs =
      let l : loads v ≡ loads w = ap (head_of 0) same_loads in
      let r : runs v ≡ runs w = ap (head_of 0) same_runs in
      (omega (arith, l), omega (arith, r), grown-same ws vs (ap tail_of same_loads) (ap tail_of same_runs))

  least-sum : (kits now : List K) → Grown kits now → sum_by loads kits ≤ sum_by loads now
  least-sum [] [] grown = omega arith
  least-sum [] (v ∷ vs) grown = absurd grown
  least-sum (w ∷ ws) [] grown = absurd grown
  least-sum (w ∷ ws) (v ∷ vs) grown =
      let l : loads w ≤ loads v = grown.0 in
      let m : sum_by loads ws ≤ sum_by loads vs = least-sum ws vs grown.2 in
      omega (arith, l, m, sum_by-cons loads w ws, sum_by-cons loads v vs)

  -- no kit counts more loads than all together
  pub most-loads : (n : ℕ) (kits now : List K) → Grown kits now → sum_by loads now ≤ sum_by loads kits + n → (k : ℕ) (a b : K) → slice_get kits k ≡ Some a → slice_get now k ≡ Some b → loads b ≤ loads a + n
  most-loads n [] [] grown most zero a b x y = cc
  most-loads n [] [] grown most (suc k) a b x y = cc
  most-loads n [] (v ∷ vs) grown most k a b x y = absurd grown
  most-loads n (w ∷ ws) [] grown most k a b x y = absurd grown
  most-loads n (w ∷ ws) (v ∷ vs) grown most zero a b x y =
      let l : loads w ≡ loads a = ap loads (same_Some w a x) in
      let m : loads v ≡ loads b = ap loads (same_Some v b y) in
      let s : sum_by loads ws ≤ sum_by loads vs = least-sum ws vs grown.2 in
      omega (arith, l, m, s, most, sum_by-cons loads w ws, sum_by-cons loads v vs)
  most-loads n (w ∷ ws) (v ∷ vs) grown most (suc k) a b x y =
      let l : loads w ≤ loads v = grown.0 in
      most-loads n ws vs grown.2 (omega (arith, l, most, sum_by-cons loads w ws, sum_by-cons loads v vs)) k a b x y
