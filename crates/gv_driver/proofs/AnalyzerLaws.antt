-- The analyzers that run over a package: each once, and at most fifteen.
use Rattle.std.proofs.Common.{◌≡◌, ℕ, ◌<◌, ◌≤◌, ◌+◌, inl, inr, Bool, true, false, Option, Some, None, List, [], ◌∷◌, ◌++◌, length, slice_get, zero, suc, refl, sym, ap, ◌∙◌, subst, arith}
use Rattle.std.proofs.lemmas.Option.{same_Some}
use Rattle.std.proofs.lemmas.List.{length-append}
use Rattle.gv_driver.specs.Analyzers.{AreAnalyzers, analyzers_of, first_analyzers, is_run, one_run}
use Rattle.gv_driver.specs.Tables.{chosen_if}
use Rattle.gv_driver.proofs.Places.{get-push_cases}

one-few : (b : Bool) (a : ℕ) → length (one_run b a) ≤ 1
one-few true a = omega arith
one-few false a = omega arith

first-few : (only : ℕ) (stub : Bool) (k : ℕ) → length (first_analyzers only stub k) ≤ k
first-few only stub zero = omega arith
first-few only stub (suc k) =
    let h : length (first_analyzers only stub k) ≤ k = first-few only stub k in
    let one : length (one_run (is_run only stub (suc k)) (suc k)) ≤ 1 = one-few (is_run only stub (suc k)) (suc k) in
    let e : length (first_analyzers only stub k ++ one_run (is_run only stub (suc k)) (suc k)) ≡ length (first_analyzers only stub k) + length (one_run (is_run only stub (suc k)) (suc k)) =
    length-append (first_analyzers only stub k) (one_run (is_run only stub (suc k)) (suc k)) in
    omega (arith, h, one, e)

pub analyzers-few : (only : ℕ) (stub : Bool) → length (analyzers_of only stub) ≤ 15
unfolding analyzers_of
analyzers-few only stub = first-few only stub 15

-- each is above those before it, and they are numbers from 1 to the last
pub record Rising (last : ℕ) (numbers : List ℕ) : Type 0 where
  pub each : (k a : ℕ) → slice_get numbers k ≡ Some a → (0 < a) × (a ≤ last)
  pub rises : (j k a b : ℕ) → j < k → slice_get numbers j ≡ Some a → slice_get numbers k ≡ Some b → a < b

rising-none : (last : ℕ) → Rising last []
rising-none last = record { each = λ k a h. absurd (nothing k a h); rises = λ j k a b l h g. absurd (nothing j a h) }
  where
    nothing : (k a : ℕ) → slice_get [] k ≡ Some a → ⊥
    nothing zero a e = cc
    nothing (suc k) a e = cc

rising-none-more : (last : ℕ) (numbers : List ℕ) → Rising last numbers → Rising (suc last) (numbers ++ [])
rising-none-more last numbers is = subst (λ (l : List ℕ). Rising (suc last) l) (sym (append_nil numbers)) (record {
  each = λ k a h. (let e = is.each k a h in (e.0, (let l : a ≤ last = e.1 in omega (arith, l))));
  rises = is.rises;
})
  where
    append_nil : (xs : List ℕ) → xs ++ [] ≡ xs
    append_nil [] = refl
    append_nil (x ∷ xs) = ap (λ l. x ∷ l) (append_nil xs)

rising-one-more : (last : ℕ) (numbers : List ℕ) → Rising last numbers → Rising (suc last) (numbers ++ suc last ∷ [])
rising-one-more last numbers is = record { each = each; rises = rises }
  where
    each : (k a : ℕ) → slice_get (numbers ++ suc last ∷ []) k ≡ Some a → (0 < a) × (a ≤ suc last)
    each k a h = elim (get-push_cases numbers (suc last) a k h) [
      | inl was ↦ (let e = is.each k a was in (e.0, (let l : a ≤ last = e.1 in omega (arith, l))))
      | inr new ↦ (let e : suc last ≡ a = new.1 in ((omega (arith, e)), (omega (arith, e))))
    ]

    rises : (j k a b : ℕ) → j < k → slice_get (numbers ++ suc last ∷ []) j ≡ Some a → slice_get (numbers ++ suc last ∷ []) k ≡ Some b → a < b
    rises j k a b l h g = elim (get-push_cases numbers (suc last) a j h) [
      | inl was ↦ elim (get-push_cases numbers (suc last) b k g) [
        | inl here ↦ is.rises j k a b l was here
        | inr new ↦ (let e : suc last ≡ b = new.1 in let m : a ≤ last = (is.each j a was).1 in omega (arith, e, m))
      ]
      | inr new ↦ elim (get-push_cases numbers (suc last) b k g) [
        | inl here ↦ absurd (let w : k < length numbers = within numbers k b here in let e : j ≡ length numbers = new.0 in omega (arith, l, w, e))
        | inr other ↦ absurd (let e : j ≡ length numbers = new.0 in let f : k ≡ length numbers = other.0 in omega (arith, l, e, f))
      ]
    ]
      where
        within : (xs : List ℕ) (i : ℕ) (x : ℕ) → slice_get xs i ≡ Some x → i < length xs
        within [] zero x e = cc
        within [] (suc i) x e = cc
        within (y ∷ xs) zero x e = omega arith
        within (y ∷ xs) (suc i) x e = let m : i < length xs = within xs i x e in let f : length (y ∷ xs) ≡ suc (length xs) = refl in omega (arith, m, f)

rising-more : (b : Bool) (last : ℕ) (numbers : List ℕ) → Rising last numbers → Rising (suc last) (numbers ++ one_run b (suc last))
rising-more true last numbers is = rising-one-more last numbers is
rising-more false last numbers is = rising-none-more last numbers is

first-rising : (only : ℕ) (stub : Bool) (k : ℕ) → Rising k (first_analyzers only stub k)
first-rising only stub zero = rising-none 0
first-rising only stub (suc k) = rising-more (is_run only stub (suc k)) k (first_analyzers only stub k) (first-rising only stub k)

pub analyzers-rise : (only : ℕ) (stub : Bool) → Rising 15 (analyzers_of only stub)
unfolding analyzers_of
analyzers-rise only stub = first-rising only stub 15

-- they are numbers of analyzers
pub are-analyzers : (only : ℕ) (stub : Bool) → AreAnalyzers (analyzers_of only stub)
are-analyzers only stub k a h = let e = (analyzers-rise only stub).each k a h in (e.0, (let l : a ≤ 15 = e.1 in omega (arith, l)))

-- those of an accepted package alone
pub chosen-few : (b : Bool) (ns : List ℕ) → length (chosen_if b ns) ≤ length ns
chosen-few true ns = omega arith
chosen-few false ns = omega arith

chosen-are : (b : Bool) (ns : List ℕ) → AreAnalyzers ns → AreAnalyzers (chosen_if b ns)
chosen-are true ns are = are
chosen-are false ns are = λ k a h. absurd (nothing k a h)
  where
    nothing : (k a : ℕ) → slice_get [] k ≡ Some a → ⊥
    nothing zero a e = cc
    nothing (suc k) a e = cc

pub chosen-analyzers : (b : Bool) (ns chosen : List ℕ) → chosen ≡ chosen_if b ns → AreAnalyzers ns → AreAnalyzers chosen
chosen-analyzers b ns chosen e are = subst AreAnalyzers (sym e) (chosen-are b ns are)
