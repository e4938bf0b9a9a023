-- One worker's turns.
use Rattle.std.proofs.Common.{◌≡◌, ℕ, suc, ◌+◌, ◌-◌, ◌*◌, ◌<◌, ◌≤◌, List, [], ◌∷◌, ◌++◌, length, cond, refl, sym, ap, ◌∙◌, subst, inl, inr, arith, lt-ltb, le-ltb}
use Rattle.std.proofs.lemmas.List.{length-append, append_assoc, append-nil}
use Rattle.std.specs.Prelude.{Option, None, Some, MatchOption, Result, Ok, Err, IfOk, slice_get}
use Rattle.std.specs.Global.{Vec}
use Rattle.wave_run.specs.declared.view.View.{View}
use Rattle.wave_run.specs.Numbers.{total}
use Rattle.wave_run.specs.Views.{hand}
use Rattle.wave_run.specs.Waves.{Costs, IsServed}
use Rattle.wave_run.specs.Turns.{within, beyond, tickets, blanks, Draws, Answers, AllSpent, AreSteps, IsAnswer, IsSpent, AreAnswers, IsStep, IsWorking, HasWorked, HasTurned, weight_of, took_of}
use Rattle.wave_run.proofs.Sums.{total-append}

pub within_yes : (jobs x : ℕ) (f : ℕ → ℕ) → x < jobs → within jobs f x ≡ f x
within_yes jobs x f h = ap (λ b. cond b (f x) 0) (lt-ltb x jobs h)

pub within_no : (jobs x : ℕ) (f : ℕ → ℕ) → jobs ≤ x → within jobs f x ≡ 0
within_no jobs x f h = ap (λ b. cond b (f x) 0) (le-ltb x jobs h)

pub beyond_no : (jobs x : ℕ) → x < jobs → beyond jobs x ≡ 0
beyond_no jobs x h = ap (λ b. cond b 0 1) (lt-ltb x jobs h)

pub beyond_yes : (jobs x : ℕ) → jobs ≤ x → beyond jobs x ≡ 1
beyond_yes jobs x h = ap (λ b. cond b 0 1) (le-ltb x jobs h)

pub at_some : {A : Type 0} (P : Type 0) (Q : A → Type 0) (o : Option A) (a : A) → o ≡ Some a → MatchOption o P Q → Q a
at_some {A} P Q o a e m = subst (λ (x : Option A). MatchOption x P Q) e m

none_found : {A E : Type 0} (r : Result A E) (P : A → Type 0) → IfOk r (λ v. ⊥) → IfOk r P
none_found (Err e) P h = tt
none_found (Ok v) P h = absurd h

ok_found : {A E : Type 0} (r : Result A E) (v : A) (P : A → Type 0) → r ≡ Ok v → P v → IfOk r P
ok_found {A} {E} r v P e h = subst (λ (x : Result A E). IfOk x P) (sym e) h

pub spent-append : {J : Type 0} (spent : J → Costs → Type 0) (jobs : List J) (a b : List (ℕ × Costs)) → AllSpent spent jobs a → AllSpent spent jobs b → AllSpent spent jobs (a ++ b)
spent-append spent jobs [] b p q = q
spent-append spent jobs (x ∷ xs) b p q = (p.0, spent-append spent jobs xs b p.1 q)

pub answers-append : {J D : Type 0} (right : J → Costs → D → Type 0) (jobs : List J) (s t : List (ℕ × Costs)) (a b : List (ℕ × D)) → AreAnswers right jobs s a → AreAnswers right jobs t b → AreAnswers right jobs (s ++ t) (a ++ b)
answers-append right jobs [] t [] b p q = q
answers-append right jobs [] t (x ∷ xs) b p q = absurd p
answers-append right jobs (x ∷ xs) t [] b p q = absurd p
answers-append right jobs (x ∷ xs) t (y ∷ ys) b p q = (p.0, p.1, answers-append right jobs xs t ys b p.2 q)

abbrev is_some : {A : Type 0} → Option A → ℕ
is_some None = 0
is_some (Some x) = 1

abbrev or_else : {A : Type 0} → A → Option A → A
or_else d None = d
or_else d (Some x) = x

-- a turn that ended with an answer
pub turned : {J D W E : Type 0} (right : J → Costs → D → Type 0) (spent : J → Costs → Type 0) (can : ℕ → W → Type 0) (count : ℕ → W → ℕ) (jobs : List J) (x number : ℕ) (before after : W) (job : J) (d : D) (c : Costs)
    → number ≡ x → x < length jobs → slice_get jobs number ≡ Some job → spent job c → ((i : ℕ) → count i after ≡ count i before + c i) → ((n : ℕ) → can (n + 1) before → can n after) → right job c d
    → HasTurned {E = E} right spent can count jobs x before after (Ok (Some (number, d)))
turned right spent can count jobs x number before after job d c is low at s counted served r = record {
  idle = λ e. absurd (omega (arith, ap is_some e));
  busy = λ a e.
      let same : (number, d) ≡ a = ap (or_else (number, d)) e in (
        low,
        ap (λ (z : ℕ × _). z.0) (sym same) ∙ is,
        (record { costs = c; spent_one = (job, ap (slice_get jobs) (sym is) ∙ at, s); counted = counted; served = served }, subst (λ (z : ℕ × _). IsAnswer right jobs c z) same (job, at, r)),
      );
  wanting = tt;
}

module _ {J D W : Type 0} (right : J → Costs → D → Type 0) (spent : J → Costs → Type 0) (can : ℕ → W → Type 0) (count : ℕ → W → ℕ) (jobs : List J) (start : View) (worker : W) where
  abbrev n : ℕ
  n = length jobs

  abbrev Working : View → W → List (ℕ × D) → ℕ → Type 0
  Working now after found turns = IsWorking right spent can count jobs start now worker after found turns

  -- what a worker counted only rises
  grown : (after : W) (steps : List (ℕ × Costs)) (taken : List ℕ) → AreSteps spent count jobs (worker ∷ []) (after ∷ []) taken steps → (i : ℕ) → count i worker ≤ count i after
  grown after steps taken are i = omega (arith, are.counted i)

  pub begins : (found : List (ℕ × D)) → found ≡ [] → Working start worker found 0
  begins found e = record {
    taken = [];
    steps = [];
    is = ap (λ (d : List ℕ). hand start.parts d) (sym (append-nil start.drawn));
    long = refl;
    tickets_all = refl;
    blanks_none = refl;
    are_steps = record { spent_ones = tt; numbers = λ f. refl; counted = λ i. omega arith };
    right_ones = subst (λ (l : List (ℕ × D)). AreAnswers right jobs [] l) (sym e) tt;
    served = λ m c. subst (λ (k : ℕ). can k worker) (omega arith) c;
  }

  taken_on : (now next : View) (taken : List ℕ) (x : ℕ) → now ≡ hand start.parts (start.drawn ++ taken) → next ≡ hand now.parts (now.drawn ++ x ∷ []) → next ≡ hand start.parts (start.drawn ++ (taken ++ x ∷ []))
  taken_on now next taken x is e = e ∙ (ap (λ (v : View). hand v.parts (v.drawn ++ x ∷ [])) is ∙ ap (λ (d : List ℕ). hand start.parts d) (append_assoc start.drawn taken (x ∷ [])))

  -- there is a turn left, as each has taken a ticket
  pub can_turn : (now : View) (after : W) (found : List (ℕ × D)) (turns : ℕ) → Working now after found turns → can (n + 1) worker → turns ≤ n → (m : ℕ) × can (m + 1) after
  can_turn now after found turns w c few =
      let e : n + 1 ≡ (n - turns + 1) + turns = omega arith in (n - turns, w.served (n - turns + 1) (subst (λ (k : ℕ). can k worker) e c))

  module _ (now next : View) (before after : W) (found : List (ℕ × D)) (turns x : ℕ) (w : Working now before found turns) (e : next ≡ hand now.parts (now.drawn ++ x ∷ [])) where
    one_more : tickets n (w.taken ++ x ∷ []) ≡ tickets n w.taken + within n (λ _. 1) x
    one_more = omega (arith, total-append (within n (λ _. 1)) w.taken (x ∷ []))

    other_more : blanks n (w.taken ++ x ∷ []) ≡ blanks n w.taken + beyond n x
    other_more = omega (arith, total-append (beyond n) w.taken (x ∷ []))

    drawn_on : turns ≤ n → Draws n 1 start next (w.taken ++ x ∷ [])
    drawn_on few = let long = w.long in record {
      is = taken_on now next w.taken x w.is e;
      few = omega (arith, length-append w.taken (x ∷ []));
    }

    module _ (s : IsStep spent can count jobs x before after) (ticket : x < n) where
      stepped : AreSteps spent count jobs (worker ∷ []) (after ∷ []) (w.taken ++ x ∷ []) (w.steps ++ (x, s.costs) ∷ [])
      stepped = record {
        spent_ones = spent-append spent jobs w.steps ((x, s.costs) ∷ []) w.are_steps.spent_ones (s.spent_one, tt);
        numbers = λ f. omega (arith, total-append (weight_of f) w.steps ((x, s.costs) ∷ []), w.are_steps.numbers f, total-append (within n f) w.taken (x ∷ []), within_yes n x f ticket);
        counted = λ i. omega (arith, total-append (took_of i) w.steps ((x, s.costs) ∷ []), w.are_steps.counted i, s.counted i);
      }

      served_on : (m : ℕ) → can (m + (turns + 1)) worker → can m after
      served_on m c = let e : m + (turns + 1) ≡ (m + 1) + turns = omega arith in s.served m (w.served (m + 1) (subst (λ (k : ℕ). can k worker) e c))

      pub goes_on : (a : ℕ × D) (more : List (ℕ × D)) → a.0 ≡ x → IsAnswer right jobs s.costs a → more ≡ found ++ a ∷ [] → Working next after more (turns + 1)
      goes_on a more same answer pushed = let long = w.long in let all = w.tickets_all in let none = w.blanks_none in record {
        taken = w.taken ++ x ∷ [];
        steps = w.steps ++ (x, s.costs) ∷ [];
        is = taken_on now next w.taken x w.is e;
        long = omega (arith, length-append w.taken (x ∷ []));
        tickets_all = omega (arith, one_more, within_yes n x (λ _. 1) ticket);
        blanks_none = omega (arith, other_more, beyond_no n x ticket);
        are_steps = stepped;
        right_ones = subst (λ (l : List (ℕ × D)). AreAnswers right jobs (w.steps ++ (x, s.costs) ∷ []) l) (sym pushed) (answers-append right jobs w.steps ((x, s.costs) ∷ []) found (a ∷ []) w.right_ones (same, answer, tt));
        served = served_on;
      }

      pub fails : {E : Type 0} (result : Result (Vec (ℕ × D)) E) → turns ≤ n → IfOk result (λ v. ⊥) → HasWorked right spent can count jobs start next worker after result
      fails result few wanting = record {
        taken = w.taken ++ x ∷ [];
        steps = w.steps ++ (x, s.costs) ∷ [];
        draws = drawn_on few;
        are_steps = stepped;
        served = (turns + 1, omega arith, grown after (w.steps ++ (x, s.costs) ∷ []) (w.taken ++ x ∷ []) stepped, served_on);
        answers = none_found result (λ v. Answers right jobs 1 (w.taken ++ x ∷ []) (w.steps ++ (x, s.costs) ∷ []) v.items) wanting;
      }

    pub stops : {E : Type 0} (v : Vec (ℕ × D)) (result : Result (Vec (ℕ × D)) E) → result ≡ Ok v → v.items ≡ found → turns ≤ n → n ≤ x → after ≡ before → HasWorked right spent can count jobs start next worker after result
    stops v result given is few blank same = let all = w.tickets_all in let none = w.blanks_none in record {
      taken = w.taken ++ x ∷ [];
      steps = w.steps;
      draws = drawn_on few;
      are_steps = record {
        spent_ones = w.are_steps.spent_ones;
        numbers = λ f. omega (arith, w.are_steps.numbers f, total-append (within n f) w.taken (x ∷ []), within_no n x f blank);
        counted = λ i. omega (arith, w.are_steps.counted i, ap (count i) same);
      };
      served = (turns, omega arith, λ i. omega (arith, grown before w.steps w.taken w.are_steps i, ap (count i) same), λ m c. subst (λ (u : W). can m u) (sym same) (w.served m c));
      answers = ok_found result v (λ v. Answers right jobs 1 (w.taken ++ x ∷ []) w.steps v.items) given (record {
        right_ones = subst (λ (l : List (ℕ × D)). AreAnswers right jobs w.steps l) (sym is) w.right_ones;
        ends = inl (omega (arith, other_more, beyond_yes n x blank));
      });
    }

  pub fills : {E : Type 0} (now : View) (after : W) (v : Vec (ℕ × D)) (turns : ℕ) (result : Result (Vec (ℕ × D)) E) → result ≡ Ok v → Working now after v.items turns → turns ≡ n + 1
      → HasWorked right spent can count jobs start now worker after result
  fills now after v turns result given w full = let all = w.tickets_all in let long = w.long in record {
    taken = w.taken;
    steps = w.steps;
    draws = record { is = w.is; few = omega arith };
    are_steps = w.are_steps;
    served = (turns, omega arith, grown after w.steps w.taken w.are_steps, w.served);
    answers = ok_found result v (λ v. Answers right jobs 1 w.taken w.steps v.items) given (record { right_ones = w.right_ones; ends = inr (omega arith) });
  }
