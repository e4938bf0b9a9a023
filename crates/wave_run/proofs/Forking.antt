-- What two halves of the workers have done is what all have done.
use Rattle.std.proofs.Common.{◌≡◌, ℕ, zero, suc, ◌+◌, ◌-◌, ◌*◌, ◌<◌, ◌≤◌, List, [], ◌∷◌, ◌++◌, length, refl, map, sym, ap, ap₂, ◌∙◌, subst, inl, inr, ⊎_elim, arith, suc-mul, Bool, true, false}
use Rattle.std.proofs.lemmas.List.{length-append, append_assoc, map-append}
use Rattle.std.specs.Prelude.{Result, Ok, Err, IfOk, IsOk, ◌⊎◌}
use Rattle.std.specs.Global.{Vec}
use denote.Param.Members.{Shared}
use denote.Ref.{MutBor}
use Rattle.wave_run.specs.declared.board.Pass.{Pass}
use Rattle.wave_run.specs.declared.view.View.{View}
use Rattle.wave_run.specs.Numbers.{total}
use Rattle.wave_run.specs.Views.{hand, left_with, right_with, met}
use Rattle.wave_run.specs.Passes.{IsSamePass, view}
use Rattle.wave_run.specs.Waves.{AreServed, Costs}
use Rattle.wave_run.specs.Turns.{within, beyond, tickets, blanks, Draws, Answers, AllSpent, AreSteps, AreAnswers, HasWorked, weight_of, took_of}
use Rattle.wave_run.specs.Both.{Gives}
use Rattle.wave_run.specs.Forks.{IsForked}
use Rattle.wave_run.proofs.Sums.{total-append}
use Rattle.wave_run.proofs.Working.{answers-append, spent-append}

pub given_as : {F P T A : Type 0} (g : Shared F (MutBor P × (MutBor (List T) × Unit {0})) (A × (MutBor P × (MutBor (List T) × Unit {0})))) (f : F) (p : P) (xs : List T) (a : A) (q : P) (ys : List T)
    → (R : P → P → List T → List T → Type 0) → (d : Gives g f p xs a q ys) → R d.value.now d.value_after.now d.items.now d.items_after.now → R p q xs ys
given_as {F} {P} {T} {A} g f p xs a q ys R d h =
    subst (λ (z : List T). R p q xs z) d.items_left
    (subst (λ (z : List T). R p q z d.items_after.now) d.items_are
    (subst (λ (z : P). R p z d.items.now d.items_after.now) d.value_left
    (subst (λ (z : P). R z d.value_after.now d.items.now d.items_after.now) d.value_is h)))

abbrev digit : Bool → ℕ
digit true = 1
digit false = 0

pub not_ok : false ≡ true → ⊥
not_ok is = let e : digit false ≡ digit true = ap digit is in absurd (omega (arith, e))

add_times : (a b k : ℕ) → (a + b) * k ≡ a * k + b * k
add_times zero b k = let e : zero + b ≡ b = omega arith in let z : zero * k ≡ 0 = omega arith in omega (arith, ap (λ (n : ℕ). n * k) e)
add_times (suc a) b k = let e : suc a + b ≡ suc (a + b) = omega arith in omega (arith, ap (λ (n : ℕ). n * k) e, suc-mul (a + b) k, suc-mul a k, add_times a b k)

pub served-append : {W : Type 0} (can : ℕ → W → Type 0) (count : ℕ → W → ℕ) (most : ℕ) (a b c d : List W) → AreServed can count most a b → AreServed can count most c d → AreServed can count most (a ++ c) (b ++ d)
served-append can count most [] [] c d p q = q
served-append can count most [] (y ∷ ys) c d p q = absurd p
served-append can count most (x ∷ xs) [] c d p q = absurd p
served-append can count most (x ∷ xs) (y ∷ ys) c d p q = (p.0, served-append can count most xs ys c d p.1 q)

module _ {J D : Type 0} (right : J → Costs → D → Type 0) (jobs : List J) where
  abbrev n : ℕ
  n = length jobs

  ended : (l r : ℕ) (ta tb : List ℕ) → (blanks n ta ≡ l) ⊎ (n < tickets n ta) → (blanks n tb ≡ r) ⊎ (n < tickets n tb) → (blanks n (ta ++ tb) ≡ l + r) ⊎ (n < tickets n (ta ++ tb))
  ended l r ta tb a b =
      let t : tickets n (ta ++ tb) ≡ tickets n ta + tickets n tb = total-append (within n (λ _. 1)) ta tb in
      let s : blanks n (ta ++ tb) ≡ blanks n ta + blanks n tb = total-append (beyond n) ta tb in
      ⊎_elim (λ (x : blanks n ta ≡ l). ⊎_elim (λ (y : blanks n tb ≡ r). inl (omega arith)) (λ (y : n < tickets n tb). inr (omega arith)) b) (λ (x : n < tickets n ta). inr (omega arith)) a

  both_answer : (l r : ℕ) (ta tb : List ℕ) (sa sb : List (ℕ × Costs)) (fa fb all : List (ℕ × D)) → all ≡ fa ++ fb → Answers right jobs l ta sa fa → Answers right jobs r tb sb fb → Answers right jobs (l + r) (ta ++ tb) (sa ++ sb) all
  both_answer l r ta tb sa sb fa fb all e a b = record {
    right_ones = subst (λ (z : List (ℕ × D)). AreAnswers right jobs (sa ++ sb) z) (sym e) (answers-append right jobs sa sb fa fb a.right_ones b.right_ones);
    ends = ended l r ta tb a.ends b.ends;
  }

  abbrev pub Found : Type 0
  Found = Vec (ℕ × D)

  abbrev pub Good : ℕ → List ℕ → List (ℕ × Costs) → Found → Type 0
  Good l ta sa v = Answers right jobs l ta sa v.items

  joins : {E : Type 0} (l r : ℕ) (ta tb : List ℕ) (sa sb : List (ℕ × Costs)) (a b all : Result Found E)
      → IfOk all (λ v. IfOk a (λ x. IfOk b (λ y. v.items ≡ x.items ++ y.items)) × IsOk a × IsOk b)
      → IfOk a (Good l ta sa) → IfOk b (Good r tb sb) → IfOk all (Good (l + r) (ta ++ tb) (sa ++ sb))
  joins l r ta tb sa sb a b (Err e) j ha hb = tt
  joins l r ta tb sa sb (Err x) b (Ok v) j ha hb = absurd (not_ok j.1)
  joins l r ta tb sa sb (Ok x) (Err y) (Ok v) j ha hb = absurd (not_ok j.2)
  joins l r ta tb sa sb (Ok x) (Ok y) (Ok v) j ha hb = both_answer l r ta tb sa sb x.items y.items v.items j.0 ha hb

  module _ {W : Type 0} (spent : J → Costs → Type 0) (can : ℕ → W → Type 0) (count : ℕ → W → ℕ) (rest : W → ℕ) where
    both_steps : (l r l' r' ws : List W) (ta tb : List ℕ) (sa sb : List (ℕ × Costs)) → ws ≡ l ++ r → AreSteps spent count jobs l l' ta sa → AreSteps spent count jobs r r' tb sb → AreSteps spent count jobs ws (l' ++ r') (ta ++ tb) (sa ++ sb)
    both_steps l r l' r' ws ta tb sa sb same a b = record {
      spent_ones = spent-append spent jobs sa sb a.spent_ones b.spent_ones;
      numbers = λ f. omega (arith, total-append (weight_of f) sa sb, total-append (within n f) ta tb, a.numbers f, b.numbers f);
      counted = λ i. omega (arith, ap (total (count i)) same, total-append (count i) l r, total-append (count i) l' r', total-append (took_of i) sa sb, a.counted i, b.counted i);
    }

    -- what one worker has done is what a list of one has
    pub one_forks : {E : Type 0} (pass after : Pass) (w w' : W) (result : Result Found E) → IsSamePass pass after → rest w' ≡ rest w → HasWorked right spent can count jobs (view pass) (view after) w w' result
        → IsForked right spent can count rest jobs pass after (w ∷ []) (w' ∷ []) result
    one_forks pass after w w' result of same h = record {
      of = of;
      kept = ap (λ (k : ℕ). k ∷ []) same;
      taken = h.taken;
      steps = h.steps;
      draws = h.draws;
      are_steps = h.are_steps;
      served = (h.served, tt);
      answers = h.answers;
    }

    pub forks_meet : {E : Type 0} (half : ℕ) (pass p1 other a1 b1 last : Pass) (ws l r l' r' : List W) (ra rb all : Result Found E)
        → ws ≡ l ++ r → half ≤ (view pass).parts → IsSamePass pass p1 → view p1 ≡ left_with half (view pass) → view other ≡ right_with half
        → IsForked right spent can count rest jobs p1 a1 l l' ra → IsForked right spent can count rest jobs other b1 r r' rb
        → IsSamePass a1 last → view last ≡ met (view a1) (view b1)
        → IfOk all (λ v. IfOk ra (λ x. IfOk rb (λ y. v.items ≡ x.items ++ y.items)) × IsOk ra × IsOk rb)
        → IsForked right spent can count rest jobs pass last ws (l' ++ r') all
    forks_meet half pass p1 other a1 b1 last ws l r l' r' ra rb all same enough of first second fa fb of' met' j =
        let v : View = view pass in
        let ta : List ℕ = fa.taken in
        let tb : List ℕ = fb.taken in
        let sa : List (ℕ × Costs) = fa.steps in
        let sb : List (ℕ × Costs) = fb.steps in
        let here : view a1 ≡ hand (v.parts - half) (v.drawn ++ ta) = fa.draws.is ∙ ap (λ (u : View). hand u.parts (u.drawn ++ ta)) first in
        let there : view b1 ≡ hand half tb = fb.draws.is ∙ ap (λ (u : View). hand u.parts (u.drawn ++ tb)) second in
        let whole : (v.parts - half) + half ≡ v.parts = omega arith in
        let sizes : length ws ≡ length l + length r = ap length same ∙ length-append l r in
        let fewa = fa.draws.few in
        let fewb = fb.draws.few in
        record {
          of = of' ∙ (fa.of ∙ of);
          kept = map-append rest l' r' ∙ (ap₂ ◌++◌ fa.kept fb.kept ∙ (sym (map-append rest l r) ∙ ap (map rest) (sym same)));
          taken = ta ++ tb;
          steps = sa ++ sb;
          draws = record {
            is = met' ∙ (ap (λ (u : View). met u (view b1)) here ∙ (ap (λ (u : View). met (hand (v.parts - half) (v.drawn ++ ta)) u) there ∙ (ap (λ (k : ℕ). hand k ((v.drawn ++ ta) ++ tb)) whole ∙ ap (λ (d : List ℕ). hand v.parts d) (append_assoc v.drawn ta tb))));
            few = omega (arith, length-append ta tb, add_times (length l) (length r) (n + 1), ap (λ (k : ℕ). k * (n + 1)) sizes);
          };
          are_steps = both_steps l r l' r' ws ta tb sa sb same fa.are_steps fb.are_steps;
          served = subst (λ (z : List W). AreServed can count (n + 1) z (l' ++ r')) (sym same) (served-append can count (n + 1) l l' r r' fa.served fb.served);
          answers = subst (λ (k : ℕ). IfOk all (Good k (ta ++ tb) (sa ++ sb))) (sym sizes) (joins (length l) (length r) ta tb sa sb ra rb all j fa.answers fb.answers);
        }
