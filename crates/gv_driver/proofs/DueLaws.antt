-- An analyzer that has facts runs over every package, where it runs over one.
use Rattle.std.proofs.Common.{◌≡◌, ℕ, ◌<◌, ◌≤◌, ◌&&◌, ◌⊎◌, inl, inr, Bool, true, false, Some, List, [], ◌∷◌, ◌++◌, slice_get, zero, suc, refl, sym, ap, ◌∙◌, subst, arith}
use Rattle.std.specs.List.{Contains}
use Rattle.std.proofs.lemmas.List.Elements.{Contains-append_left, Contains-push}
use Rattle.action_graph.specs.Work.{has_facts, has_runs}
use Rattle.gv_driver.specs.Analyzers.{analyzers_of, first_analyzers, is_chosen, is_due, is_run, one_run}
use Rattle.gv_driver.proofs.AnalyzerLaws.{analyzers-rise}
use Rattle.gv_driver.proofs.Places.{append-none, at-contained, get-push_cases}

runs-still : (c d e r : Bool) → ((c && d) && r) ≡ true → e ≡ true → ((c && e) && r) ≡ true
runs-still true true true true h is = refl
runs-still true true false true h is = cc
runs-still true true e false h is = cc
runs-still true false e r h is = cc
runs-still false d e r h is = cc

due-is : (stub : Bool) (a : ℕ) → has_facts a ≡ true → is_due stub a ≡ true
due-is true a h = h
due-is false a h = refl

run-still : (only a : ℕ) (stub other : Bool) → has_facts a ≡ true → is_run only stub a ≡ true → is_run only other a ≡ true
run-still only a stub other h is = runs-still (is_chosen only a) (is_due stub a) (is_due other a) (has_runs a) is (due-is other a h)

at-last : (a k : ℕ) → a ≤ suc k → (a ≤ k) ⊎ (a ≡ suc k)
at-last a k h = grind arith

has-last : (b : Bool) (xs : List ℕ) (n : ℕ) → b ≡ true → Contains (xs ++ one_run b n) n
has-last true xs n e = Contains-push xs n
has-last false xs n e = cc

first-has : (only : ℕ) (stub : Bool) (k a : ℕ) → 0 < a → a ≤ k → is_run only stub a ≡ true → Contains (first_analyzers only stub k) a
first-has only stub zero a some low is = absurd (omega (arith, some, low))
first-has only stub (suc k) a some low is = elim (at-last a k low) [
  | inl l ↦ Contains-append_left (first_analyzers only stub k) (one_run (is_run only stub (suc k)) (suc k)) a (first-has only stub k a some l is)
  | inr e ↦
      let last : is_run only stub (suc k) ≡ true = subst (λ (n : ℕ). is_run only stub n ≡ true) e is in
      subst (λ (n : ℕ). Contains (first_analyzers only stub k ++ one_run (is_run only stub (suc k)) (suc k)) n) (sym e) (has-last (is_run only stub (suc k)) (first_analyzers only stub k) (suc k) last)
]

last-runs : (only : ℕ) (stub b : Bool) (xs : List ℕ) (n j a : ℕ) → is_run only stub n ≡ b → ((i : ℕ) → slice_get xs i ≡ Some a → is_run only stub a ≡ true) → slice_get (xs ++ one_run b n) j ≡ Some a → is_run only stub a ≡ true
last-runs only stub true xs n j a e before h = elim (get-push_cases xs n a j h) [
  | inl was ↦ before j was
  | inr new ↦ subst (λ (m : ℕ). is_run only stub m ≡ true) new.1 e
]
last-runs only stub false xs n j a e before h = before j (subst (λ (l : List ℕ). slice_get l j ≡ Some a) (append-none xs) h)

nothing-at : (j a : ℕ) → slice_get [] j ≡ Some a → ⊥
nothing-at zero a e = cc
nothing-at (suc j) a e = cc

first-runs : (only : ℕ) (stub : Bool) (k j a : ℕ) → slice_get (first_analyzers only stub k) j ≡ Some a → is_run only stub a ≡ true
first-runs only stub zero j a h = absurd (nothing-at j a h)
first-runs only stub (suc k) j a h = last-runs only stub (is_run only stub (suc k)) (first_analyzers only stub k) (suc k) j a refl (λ i g. first-runs only stub k i a g) h

pub facts-everywhere : (only a : ℕ) (stub other : Bool) → Contains (analyzers_of only stub) a → has_facts a ≡ true → Contains (analyzers_of only other) a
unfolding analyzers_of
facts-everywhere only a stub other c h =
    let at : slice_get (analyzers_of only stub) c.0 ≡ Some a = at-contained (analyzers_of only stub) a c in
    let number = (analyzers-rise only stub).each c.0 a at in
    first-has only other 15 a number.0 number.1 (run-still only a stub other h (first-runs only stub 15 c.0 a at))
