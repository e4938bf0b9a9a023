-- Answers are put at their numbers.
use Rattle.std.proofs.Common.{◌≡◌, ◌≢◌, ℕ, zero, suc, ◌<◌, ◌≤◌, List, [], ◌∷◌, ◌++◌, length, map, set, cond, eqb, sym, refl, ap, ap₂, ◌∙◌, subst, inl, inr, ⊎_elim, arith, length-set, eq-eqb, ne_eqb, replicate}
use Rattle.std.proofs.lemmas.List.{length-map, length-replicate}
use Rattle.std.specs.Prelude.{Option, Some, None, ◌⊎◌, slice_get}
use mathlib.Core.Logic.{dite}
use native.Mathlib.Decide.{ℕ_discrete, dec_le}
use Rattle.wave_run.specs.Numbers.{total, below, Among}
use Rattle.wave_run.specs.Waves.{AreAnswered, Costs, IsOneAnswer}
use Rattle.wave_run.specs.Turns.{beyond, weight_of}
use Rattle.wave_run.specs.Places.{AreByNumber, AreFull, ArePlaced, ArePlacing}
use Rattle.wave_run.proofs.Working.{beyond_no, beyond_yes}

abbrev pub only : ℕ → ℕ → ℕ
only k x = cond (eqb x k) 1 0

pub only_same : (k x : ℕ) → x ≡ k → only k x ≡ 1
only_same k x e = ap (λ b. cond b 1 0) (eq-eqb x k e)

only_other : (k x : ℕ) → x ≢ k → only k x ≡ 0
only_other k x e = ap (λ b. cond b 1 0) (ne_eqb x k e)

pub below_none : (k n : ℕ) → n ≤ k → below (only k) n ≡ 0
below_none k zero h = refl
below_none k (suc n) h = omega (arith, below_none k n (omega arith), only_other k n (λ e. omega arith))

pub below_once : (k n : ℕ) → k < n → below (only k) n ≡ 1
below_once k zero h = absurd (omega arith)
below_once k (suc n) h = dite (ℕ_discrete n k) (λ e. omega (arith, below_none k n (omega arith), only_same k n e)) (λ ne. omega (arith, below_once k n (omega arith), only_other k n ne))

-- what weighs nothing below n
below_zero : (f : ℕ → ℕ) (n : ℕ) → ((i : ℕ) → i < n → f i ≡ 0) → below f n ≡ 0
below_zero f zero h = refl
below_zero f (suc n) h = omega (arith, below_zero f n (λ i l. h i (omega arith)), h n (omega arith))

abbrev unsome : {A : Type 0} → A → Option A → A
unsome d None = d
unsome d (Some x) = x

pub some_same : {A : Type 0} (x y : A) → Some x ≡ Some y → x ≡ y
some_same x y e = ap (unsome x) e

abbrev is_some : {A : Type 0} → Option A → ℕ
is_some None = 0
is_some (Some x) = 1

pub some_none : {A : Type 0} (x : A) → Some x ≡ None → ⊥
some_none x e = absurd (omega (arith, ap is_some e))

module _ {A : Type 0} where
  pub got_set : (l : List A) (i j : ℕ) (a b : A) → slice_get (set l i a) j ≡ Some b → ((j ≡ i) × (a ≡ b)) ⊎ ((j ≢ i) × (slice_get l j ≡ Some b))
  got_set [] i j a b e = absurd (some_none b (sym e))
  got_set (x ∷ xs) zero zero a b e = inl (refl, some_same a b e)
  got_set (x ∷ xs) zero (suc j) a b e = inr ((λ h. omega arith), e)
  got_set (x ∷ xs) (suc i) zero a b e = inr ((λ h. omega arith), e)
  got_set (x ∷ xs) (suc i) (suc j) a b e = ⊎_elim (λ t. inl (ap suc t.0, t.1)) (λ t. let n = t.0 in inr ((λ h. n (omega arith)), t.1)) (got_set xs i j a b e)

  pub got_here : (l : List A) (i : ℕ) (a : A) → i < length l → slice_get (set l i a) i ≡ Some a
  got_here [] i a h = absurd (omega arith)
  got_here (x ∷ xs) zero a h = refl
  got_here (x ∷ xs) (suc i) a h = got_here xs i a (omega arith)

  pub got_else : (l : List A) (i j : ℕ) (a : A) → j ≢ i → slice_get (set l i a) j ≡ slice_get l j
  got_else [] i j a n = refl
  got_else (x ∷ xs) zero zero a n = absurd (n refl)
  got_else (x ∷ xs) zero (suc j) a n = refl
  got_else (x ∷ xs) (suc i) zero a n = refl
  got_else (x ∷ xs) (suc i) (suc j) a n = got_else xs i j a (λ e. n (ap suc e))

  pub got_none : (n k : ℕ) (a : A) → slice_get (replicate n None) k ≡ Some (Some a) → ⊥
  got_none zero k a e = some_none (Some a) (sym e)
  got_none (suc n) zero a e = some_none a (sym (some_same None (Some a) e))
  got_none (suc n) (suc k) a e = got_none n k a e

  got_map : (l : List A) (k : ℕ) (a : A) → slice_get l k ≡ Some a → slice_get (map Some l) k ≡ Some (Some a)
  got_map [] k a e = absurd (some_none a (sym e))
  got_map (x ∷ xs) zero a e = ap Some e
  got_map (x ∷ xs) (suc k) a e = got_map xs k a e

  pub got_snoc : (l : List A) (x : A) (k : ℕ) (a : A) → slice_get (l ++ x ∷ []) k ≡ Some a → slice_get l k ≡ Some a ⊎ (x ≡ a)
  got_snoc [] x zero a e = inr (some_same x a e)
  got_snoc [] x (suc k) a e = absurd (some_none a (sym e))
  got_snoc (y ∷ ys) x zero a e = inl e
  got_snoc (y ∷ ys) x (suc k) a e = got_snoc ys x k a e

  among_snoc : (a x : A) (xs : List A) → Among a (xs ++ x ∷ []) → Among a xs ⊎ (a ≡ x)
  among_snoc a x [] m = ⊎_elim (λ (e : a ≡ x). inr e) (λ (n : ⊥). absurd n) m
  among_snoc a x (y ∷ ys) m = ⊎_elim (λ (e : a ≡ y). inl (inl e)) (λ (n : Among a (ys ++ x ∷ [])). ⊎_elim (λ (i : Among a ys). inl (inr i)) (λ (e : a ≡ x). inr e) (among_snoc a x ys n)) m

  among_left : (a x : A) (xs : List A) → Among a xs → Among a (xs ++ x ∷ [])
  among_left a x [] m = absurd m
  among_left a x (y ∷ ys) m = ⊎_elim (λ (e : a ≡ y). inl e) (λ (n : Among a ys). inr (among_left a x ys n)) m

  among_last : (x : A) (xs : List A) → Among x (xs ++ x ∷ [])
  among_last x [] = inl refl
  among_last x (y ∷ ys) = inr (among_last x ys)

module _ {D : Type 0} where
  pub among_weight : (f : ℕ → ℕ) (a : ℕ × D) (l : List (ℕ × D)) → Among a l → f a.0 ≤ total (weight_of f) l
  among_weight f a [] m = absurd m
  among_weight f a (x ∷ xs) m = ⊎_elim (λ (e : a ≡ x). omega (arith, ap (weight_of f) e)) (λ (n : Among a xs). omega (arith, among_weight f a xs n)) m

  among_number : (k : ℕ) (l : List (ℕ × D)) → 0 < total (weight_of (only k)) l → (d : D) × Among (k, d) l
  among_number k [] h = absurd (omega arith)
  among_number k (x ∷ xs) h = dite (ℕ_discrete x.0 k)
      (λ e. (x.1, inl (ap (λ (z : ℕ). (z, x.1)) (sym e))))
      (λ ne. let r = among_number k xs (omega (arith, only_other k x.0 ne)) in (r.0, inr r.1))

  pub number_below : (all : List (ℕ × D)) (count : ℕ) (a : ℕ × D) → ((f : ℕ → ℕ) → total (weight_of f) all ≡ below f count) → Among a all → a.0 < count
  number_below all count a h m = dite (dec_le count a.0)
      (λ (l : count ≤ a.0). absurd (omega (arith, among_weight (beyond count) a all m, h (beyond count), beyond_yes count a.0 l, below_zero (beyond count) count (λ i u. beyond_no count i u))))
      (λ nl. omega arith)

  pub placing_starts : (all : List (ℕ × D)) (count : ℕ) (slots : List (Option D)) → slots ≡ replicate count None → ArePlacing all all count slots
  placing_starts all count slots e = record {
    size = ap length e ∙ length-replicate count None;
    right = λ k d at. absurd (got_none count k d (ap (λ (l : List (Option D)). slice_get l k) (sym e) ∙ at));
    inside = λ a m. m;
    seen = λ a m. inl m;
  }

  pub placing_on : (all rest next : List (ℕ × D)) (count : ℕ) (slots : List (Option D)) (number : ℕ) (d : D) → ((f : ℕ → ℕ) → total (weight_of f) all ≡ below f count)
      → ArePlacing all rest count slots → rest ≡ next ++ (number, d) ∷ [] → ArePlacing all next count (set slots number (Some d))
  placing_on all rest next count slots number d h p e =
      let here : Among (number, d) all = p.inside (number, d) (subst (λ (l : List (ℕ × D)). Among (number, d) l) (sym e) (among_last (number, d) next)) in
      let size = p.size in
      let near : number < length slots = omega (arith, number_below all count (number, d) h here) in
      record {
        size = length-set slots number (Some d) ∙ p.size;
        right = λ k x at. ⊎_elim
            (λ (t : (k ≡ number) × (Some d ≡ Some x)). subst (λ (y : D). Among (k, y) all) (some_same d x t.1) (subst (λ (z : ℕ). Among (z, d) all) (sym t.0) here))
            (λ (t : (k ≢ number) × (slice_get slots k ≡ Some (Some x))). p.right k x t.1) (got_set slots number k (Some d) (Some x) at);
        inside = λ a m. p.inside a (subst (λ (l : List (ℕ × D)). Among a l) (sym e) (among_left a (number, d) next m));
        seen = λ a m. ⊎_elim
            (λ (r : Among a rest). ⊎_elim (λ (i : Among a next). inl i)
            (λ (q : a ≡ (number, d)). inr (d, ap (λ (z : ℕ × D). slice_get (set slots number (Some d)) z.0) q ∙ got_here slots number (Some d) near))
            (among_snoc a (number, d) next (subst (λ (l : List (ℕ × D)). Among a l) e r)))
            (λ (r : (x : D) × (slice_get slots a.0 ≡ Some (Some x))). dite (ℕ_discrete a.0 number)
            (λ q. inr (d, ap (λ (z : ℕ). slice_get (set slots number (Some d)) z) q ∙ got_here slots number (Some d) near))
            (λ q. inr (r.0, got_else slots number a.0 (Some d) q ∙ r.1)))
            (p.seen a m);
      }

  pub placing_near : (all rest next : List (ℕ × D)) (count : ℕ) (slots : List (Option D)) (number : ℕ) (d : D) → ((f : ℕ → ℕ) → total (weight_of f) all ≡ below f count)
      → ArePlacing all rest count slots → rest ≡ next ++ (number, d) ∷ [] → number < length slots
  placing_near all rest next count slots number d h p e =
      let here : Among (number, d) all = p.inside (number, d) (subst (λ (l : List (ℕ × D)). Among (number, d) l) (sym e) (among_last (number, d) next)) in
      let size = p.size in omega (arith, number_below all count (number, d) h here)

  pub nil_of : (l : List (ℕ × D)) → length l ≡ 0 → l ≡ []
  nil_of [] e = refl
  nil_of (x ∷ xs) e = absurd (omega arith)

  pub placing_ends : (all rest : List (ℕ × D)) (count : ℕ) (slots : List (Option D)) → ((f : ℕ → ℕ) → total (weight_of f) all ≡ below f count)
      → ArePlacing all rest count slots → rest ≡ [] → ArePlaced all count slots
  placing_ends all rest count slots h p e = let size = p.size in record {
    size = p.size;
    right = p.right;
    full = λ k l.
        let near : k < count = omega (arith, p.size) in
        let found = among_number k all (omega (arith, h (only k), below_once k count near)) in
        ⊎_elim (λ (r : Among (k, found.0) rest). absurd (subst (λ (l : List (ℕ × D)). Among (k, found.0) l) e r)) (λ r. r) (p.seen (k, found.0) found.1);
  }

  pub by_number : (found : List (ℕ × D)) (count : ℕ) (slots : List (Option D)) (answers : List D) → ArePlaced found count slots → map Some answers ≡ slots → AreByNumber found count answers
  by_number found count slots answers p e = record {
    size = sym (length-map answers Some) ∙ (ap length e ∙ p.size);
    each = λ k d at. p.right k d (ap (λ (l : List (Option D)). slice_get l k) (sym e) ∙ got_map answers k d at);
  }

-- where each job has one right answer, all answers are one list
pub same_answers : {J D : Type 0} (right : J → Costs → D → Type 0) → IsOneAnswer right → (jobs : List J) (b c : List (Option Costs)) (d e : List D) → AreAnswered right jobs b d → AreAnswered right jobs c e → d ≡ e
same_answers {J} {D} right one jobs b c d e p q = go jobs d e p.size q.size (λ k j x at got. let t = p.each k j x at got in (t.0, t.2)) (λ k j x at got. let t = q.each k j x at got in (t.0, t.2))
  where
    Each : List J → List D → Type 0
    Each js xs = (k : ℕ) (j : J) (x : D) → slice_get js k ≡ Some j → slice_get xs k ≡ Some x → (c : Costs) × right j c x

    go : (js : List J) (xs ys : List D) → length xs ≡ length js → length ys ≡ length js → Each js xs → Each js ys → xs ≡ ys
    go [] [] [] s t u v = refl
    go [] [] (y ∷ ys) s t u v = absurd (omega (arith, t))
    go [] (x ∷ xs) ys s t u v = absurd (omega (arith, s))
    go (j ∷ js) [] ys s t u v = absurd (omega (arith, s))
    go (j ∷ js) (x ∷ xs) [] s t u v = absurd (omega (arith, t))
    go (j ∷ js) (x ∷ xs) (y ∷ ys) s t u v =
        let a = u 0 j x refl refl in
        let b = v 0 j y refl refl in
        ap₂ ◌∷◌ (one j a.0 b.0 x y a.1 b.1) (go js xs ys (omega (arith, s)) (omega (arith, t)) (λ k. u (suc k)) (λ k. v (suc k)))

full_none : {D : Type 0} (answers : List D) (more : List (Option D)) → AreFull (map Some answers ++ None ∷ more) → ⊥
full_none [] more full = let r = full 0 (omega arith) in some_none r.0 (sym (some_same None (Some r.0) r.1))
full_none (x ∷ xs) more full = full_none xs more (λ k l. full (suc k) (omega arith))

-- no empty place follows answers that were taken out of full places
pub none_follows : {D : Type 0} (answers : List D) (rest more slots : List (Option D)) → AreFull slots → map Some answers ++ rest ≡ slots → rest ≡ None ∷ more → ⊥
none_follows answers rest more slots full is next = full_none answers more (subst (λ (l : List (Option _)). AreFull l) (sym is ∙ ap (λ (l : List (Option _)). map Some answers ++ l) next) full)
