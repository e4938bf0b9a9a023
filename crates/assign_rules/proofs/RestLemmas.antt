-- Values that are assigned one after the other, until one isn't.
use Rattle.std.proofs.Common.{◌≡◌, ℕ, ◌+◌, ◌≤◌, zero, suc, Bool, true, false, List, [], ◌∷◌, drop, length, map, slice_get, Some, None, refl, sym, ap, subst, arith}
use Rattle.type_questions.specs.declared.reached.Found.{Found}
use Rattle.type_questions.specs.declared.reached.Found.TheVariants as f
use Rattle.type_questions.specs.declared.reached.Reached.{Reached}
use Rattle.type_questions.specs.declared.reached.Reached.TheVariants.{Got, Lost}
use Rattle.type_answers.specs.Coming.{FoundBy}
use Rattle.type_answers.proofs.ComingLaws.{bind_found, bind_waits}
use Rattle.typed_marks.specs.declared.item.Item.{Item}
use Rattle.typed_marks.specs.declared.state.State.{State}
use Rattle.unit_read.specs.declared.subject.Subject.{Subject}
use Rattle.rule_words.specs.Asking.{Asks}
use Rattle.rule_words.specs.Told.{ends}
use Rattle.assign_rules.specs.Sharing.{then_others, all_from}

-- ---- lists

pub dropped_at : {X : Type 0} (xs : List X) (i : ℕ) (x : X) → slice_get xs i ≡ Some x → drop i xs ≡ x ∷ drop (i + 1) xs
dropped_at [] i x is = absurd cc
dropped_at (y ∷ xs) zero x is = let same : y ≡ x = cc in ap (λ z. z ∷ xs) same
dropped_at (y ∷ xs) (suc i) x is = let e : suc i + 1 ≡ suc (i + 1) = omega arith in rw e (dropped_at xs i x is)

pub dropped_all : {X : Type 0} (xs : List X) (i : ℕ) → length xs ≤ i → drop i xs ≡ []
dropped_all [] zero low = refl
dropped_all [] (suc i) low = refl
dropped_all (x ∷ xs) zero low = absurd (omega arith)
dropped_all (x ∷ xs) (suc i) low = dropped_all xs i (omega arith)

pub none_past : {X : Type 0} (xs : List X) (i : ℕ) → slice_get xs i ≡ None → length xs ≤ i
none_past [] i is = omega arith
none_past (x ∷ xs) zero is = absurd cc
none_past (x ∷ xs) (suc i) is = let low : length xs ≤ i = none_past xs i is in omega arith

pub mapped_at : {X Y : Type 0} (g : X → Y) (xs : List X) (i : ℕ) (x : X) → slice_get xs i ≡ Some x → slice_get (map g xs) i ≡ Some (g x)
mapped_at g [] i x is = absurd cc
mapped_at g (y ∷ xs) zero x is = let same : y ≡ x = cc in ap (λ z. Some (g z)) same
mapped_at g (y ∷ xs) (suc i) x is = mapped_at g xs i x is

pub mapped_length : {X Y : Type 0} (g : X → Y) (xs : List X) → length (map g xs) ≡ length xs
mapped_length g [] = refl
mapped_length g (x ∷ xs) = ap (λ n. suc n) (mapped_length g xs)

-- ---- one after the other

module _ {X : Type 0} (u : Subject) (s : State) (one : X → ℕ → Asks (Reached Bool)) where
  abbrev from : List X → ℕ → Found (Reached Bool) Item → Type 0
  from xs i found = FoundBy u s (λ (r : Reached Bool). r) (all_from one (drop i xs) i) found

  abbrev pub IsAll : List X → Found (Reached Bool) Item → Type 0
  IsAll xs found = FoundBy u s (λ (r : Reached Bool). r) (all_from one xs 0) found

  -- what is found of those from a place on is found of all
  abbrev pub IsRest : List X → ℕ → Type 0
  IsRest xs i = (found : Found (Reached Bool) Item) → from xs i found → IsAll xs found

  abbrev pub IsNth : X → ℕ → Found (Reached Bool) Item → Type 0
  IsNth x i found = FoundBy u s (λ (r : Reached Bool). r) (one x i) found

  pub first_rest : (xs : List X) → IsRest xs 0
  first_rest xs found is = is

  at_place : (xs : List X) (i : ℕ) (x : X) (found : Found (Reached Bool) Item) → slice_get xs i ≡ Some x
      → FoundBy u s (λ (r : Reached Bool). r) (all_from one (x ∷ drop (i + 1) xs) i) found → from xs i found
  at_place xs i x found is here = subst (λ (l : List X). FoundBy u s (λ (r : Reached Bool). r) (all_from one l i) found) (sym (dropped_at xs i x is)) here

  -- the next one is assigned
  rest_on : (xs : List X) (i : ℕ) (x : X) → slice_get xs i ≡ Some x → IsNth x i (f.Is (Got true)) → IsRest xs i → IsRest xs (i + 1)
  rest_on xs i x is nth rest found more =
      rest found (at_place xs i x found is
      (bind_found u s (λ (r : Reached Bool). r) (one x i) (then_others (all_from one (drop (i + 1) xs) (i + 1))) (Got true) found nth more))

  -- it isn't
  not_at : (xs : List X) (i : ℕ) (x : X) → slice_get xs i ≡ Some x → IsNth x i (f.Is (Got false)) → IsRest xs i → IsAll xs (f.Is (Got false))
  not_at xs i x is nth rest =
      rest (f.Is (Got false)) (at_place xs i x (f.Is (Got false)) is
      (bind_found u s (λ (r : Reached Bool). r) (one x i) (then_others (all_from one (drop (i + 1) xs) (i + 1))) (Got false) (f.Is (Got false)) nth refl))

  lost_at : (xs : List X) (i : ℕ) (x : X) → slice_get xs i ≡ Some x → IsNth x i (f.Is Lost) → IsRest xs i → IsAll xs (f.Is Lost)
  lost_at xs i x is nth rest =
      rest (f.Is Lost) (at_place xs i x (f.Is Lost) is
      (bind_found u s (λ (r : Reached Bool). r) (one x i) (then_others (all_from one (drop (i + 1) xs) (i + 1))) Lost (f.Is Lost) nth refl))

  wait_at : (xs : List X) (i : ℕ) (x : X) (j : Item) → slice_get xs i ≡ Some x → IsNth x i (f.Wait j) → IsRest xs i → IsAll xs (f.Wait j)
  wait_at xs i x j is nth rest =
      rest (f.Wait j) (at_place xs i x (f.Wait j) is
      (bind_waits u s (one x i) (then_others (all_from one (drop (i + 1) xs) (i + 1))) j nth))

  pub all_at_last : (xs : List X) (i : ℕ) → length xs ≤ i → IsRest xs i → IsAll xs (f.Is (Got true))
  all_at_last xs i low rest =
      rest (f.Is (Got true)) (subst (λ (l : List X). FoundBy u s (λ (r : Reached Bool). r) (all_from one l i) (f.Is (Got true))) (sym (dropped_all xs i low)) refl)

  -- one that is assignable is passed
  pub passes : (xs : List X) (i : ℕ) (x : X) (found : Found (Reached Bool) Item) → slice_get xs i ≡ Some x → IsNth x i found → ends found ≡ false → IsRest xs i → IsRest xs (i + 1)
  passes xs i x (f.Is (Got true)) is nth on rest = rest_on xs i x is nth rest
  passes xs i x (f.Is (Got false)) is nth on rest = absurd cc
  passes xs i x (f.Is Lost) is nth on rest = absurd cc
  passes xs i x (f.Wait j) is nth on rest = absurd cc

  -- what else is found of one is found of all
  pub stops : (xs : List X) (i : ℕ) (x : X) (found : Found (Reached Bool) Item) → slice_get xs i ≡ Some x → IsNth x i found → ends found ≡ true → IsRest xs i → IsAll xs found
  stops xs i x (f.Is (Got true)) is nth off rest = absurd cc
  stops xs i x (f.Is (Got false)) is nth off rest = not_at xs i x is nth rest
  stops xs i x (f.Is Lost) is nth off rest = lost_at xs i x is nth rest
  stops xs i x (f.Wait j) is nth off rest = wait_at xs i x j is nth rest
