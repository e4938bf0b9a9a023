-- How what code comes to is put together: from what a rule says at once, from an answer, from a rule within a rule.
use Rattle.std.proofs.Common.{◌≡◌, Option, refl, sym, ap, ◌∙◌, subst, inl, inr}
use Rattle.mark_walk.specs.Asks.{Ask, done, ask, put, bind, Gives, Awaits}
use Rattle.mark_walk.specs.Telling.{tell, Says, Waits, Puts}
use Rattle.mark_walk.proofs.TellLaws.{says_gives, waits_awaits, puts_gives, puts_pends, puts_awaits}
use Rattle.type_questions.specs.declared.reached.Found.{Found}
use Rattle.type_questions.specs.declared.reached.Found.TheVariants as f
use Rattle.type_questions.specs.Questions.{Question, Told}
use Rattle.typed_marks.specs.declared.item.Item.{Item}
use Rattle.typed_marks.specs.declared.state.State.{State}
use Rattle.typed_marks.specs.Meanings.{Meaning}
use Rattle.typed_marks.specs.States.{so_far}
use Rattle.unit_read.specs.declared.subject.Subject.{Subject}
use Rattle.rule_words.specs.declared.step.Asked.{Asked}
use Rattle.rule_words.specs.declared.step.Rest.{Rest}
use Rattle.rule_words.specs.declared.step.Step.{Step}
use Rattle.rule_words.specs.declared.step.Step.TheVariants as step
use Rattle.rule_words.specs.Answers.{answer_in}
use Rattle.rule_words.specs.Asking.{Asks, Rule}
use Rattle.rule_words.specs.Scenes.{IsScene, sight, told_by}
use Rattle.rule_words.specs.Steps.{step_in, question_in, rest_in}
use Rattle.type_answers.proofs.PendingLemmas.{true_sight}
use Rattle.type_answers.specs.Coming.{says_at, pends_at, GivesAt, AwaitsAt, FoundBy, Leads, ComesTo}

-- ---- what is said at once

-- a step that is what is told of the rule
pub same_comes : (u : Subject) (s : State) (rule : Rule) (x : Step) → IsScene u s → step_in s x ≡ tell (sight s) rule → ComesTo u s rule x
same_comes u s rule (step.Says given) scene is = says_gives (says_at u) (sight s) (pends_at u) (true_sight u s scene) rule (answer_in s given) (sym is)
same_comes u s rule (step.Waits i) scene is = waits_awaits (says_at u) (sight s) (pends_at u) (true_sight u s scene) rule i (sym is)
same_comes u s rule (step.Puts asked rest) scene is = record { gives = gives; awaits = awaits } where
  gives : (m : Meaning) → GivesAt u s (put (question_in s asked) (rest_in s rest)) m → GivesAt u s rule m
  gives m (told, says, more) = puts_gives (says_at u) (sight s) (pends_at u) (true_sight u s scene) rule (question_in s asked) (rest_in s rest) told m (sym is) says more

  awaits : (i : Item) → AwaitsAt u s (put (question_in s asked) (rest_in s rest)) i → AwaitsAt u s rule i
  awaits i (inl is_pending) = puts_pends (says_at u) (sight s) (pends_at u) (true_sight u s scene) rule (question_in s asked) (rest_in s rest) i (sym is) is_pending
  awaits i (inr (told, says, more)) = puts_awaits (says_at u) (sight s) (pends_at u) (true_sight u s scene) rule (question_in s asked) (rest_in s rest) told i (sym is) says more

-- what is found that is told of what is asked
pub same_found : {T R : Type 0} (u : Subject) (s : State) (told : T → R) (r : Asks R) (found : Found T Item) → IsScene u s → told_by told found ≡ tell (sight s) r → FoundBy u s told r found
same_found u s told r (f.Is x) scene is = says_gives (says_at u) (sight s) (pends_at u) (true_sight u s scene) r (told x) (sym is)
same_found u s told r (f.Wait i) scene is = waits_awaits (says_at u) (sight s) (pends_at u) (true_sight u s scene) r i (sym is)

-- ---- a rule within a rule

pub gives_bind : {R S : Type 0} (u : Subject) (s : State) (r : Asks R) (rest : R → Asks S) (x : R) (y : S) → GivesAt u s r x → GivesAt u s (rest x) y → GivesAt u s (bind r rest) y
gives_bind {R} {S} u s (done z) rest x y same more = subst (λ (w : R). GivesAt u s (rest w) y) (sym same) more
gives_bind u s (ask i after) rest x y (m, at, first) more = (m, at, gives_bind u s (after m) rest x y first more)
gives_bind u s (put q after) rest x y (a, is, first) more = (a, is, gives_bind u s (after a) rest x y first more)

-- the inner rule gave this, and what follows waits
pub awaits_after : {R S : Type 0} (u : Subject) (s : State) (r : Asks R) (rest : R → Asks S) (x : R) (i : Item) → GivesAt u s r x → AwaitsAt u s (rest x) i → AwaitsAt u s (bind r rest) i
awaits_after {R} {S} u s (done z) rest x i same more = subst (λ (w : R). AwaitsAt u s (rest w) i) (sym same) more
awaits_after u s (ask j after) rest x i (m, at, first) more = inr (m, at, awaits_after u s (after m) rest x i first more)
awaits_after u s (put q after) rest x i (a, is, first) more = inr (a, is, awaits_after u s (after a) rest x i first more)

-- the inner rule waits
pub bind_waits : {R S : Type 0} (u : Subject) (s : State) (r : Asks R) (rest : R → Asks S) (i : Item) → AwaitsAt u s r i → AwaitsAt u s (bind r rest) i
bind_waits u s (done z) rest i never = absurd never
bind_waits u s (ask j after) rest i (inl is) = inl is
bind_waits u s (ask j after) rest i (inr (m, at, first)) = inr (m, at, bind_waits u s (after m) rest i first)
bind_waits u s (put q after) rest i (inl is) = inl is
bind_waits u s (put q after) rest i (inr (a, is, first)) = inr (a, is, bind_waits u s (after a) rest i first)

-- the inner rule gave this, and the step comes to what follows
pub bind_comes : {R : Type 0} (u : Subject) (s : State) (r : Asks R) (rest : R → Rule) (x : R) (next : Step) → GivesAt u s r x → ComesTo u s (rest x) next → ComesTo u s (bind r rest) next
bind_comes u s r rest x (step.Says given) first more = gives_bind u s r rest x (answer_in s given) first more
bind_comes u s r rest x (step.Waits i) first more = awaits_after u s r rest x i first more
bind_comes u s r rest x (step.Puts asked after) first more = record {
  gives = λ m is. gives_bind u s r rest x m first (more.gives m is);
  awaits = λ i is. awaits_after u s r rest x i first (more.awaits i is);
}

pub bind_found : {T R S : Type 0} (u : Subject) (s : State) (told : T → S) (r : Asks R) (rest : R → Asks S) (x : R) (found : Found T Item) → GivesAt u s r x → FoundBy u s told (rest x) found
    → FoundBy u s told (bind r rest) found
bind_found u s told r rest x (f.Is y) first more = gives_bind u s r rest x (told y) first more
bind_found u s told r rest x (f.Wait i) first more = awaits_after u s r rest x i first more

-- ---- what goes on from what is told at once

pub says_comes : {R : Type 0} (u : Subject) (s : State) (r : Asks R) (rest : R → Rule) (x : R) (next : Step) → IsScene u s → Says x ≡ tell (sight s) r → ComesTo u s (rest x) next
    → ComesTo u s (bind r rest) next
says_comes u s r rest x next scene told more = bind_comes u s r rest x next (says_gives (says_at u) (sight s) (pends_at u) (true_sight u s scene) r x (sym told)) more

pub says_found : {T R S : Type 0} (u : Subject) (s : State) (into : T → S) (r : Asks R) (rest : R → Asks S) (x : R) (found : Found T Item) → IsScene u s → Says x ≡ tell (sight s) r
    → FoundBy u s into (rest x) found → FoundBy u s into (bind r rest) found
says_found u s into r rest x found scene told more =
    bind_found u s into r rest x found (says_gives (says_at u) (sight s) (pends_at u) (true_sight u s scene) r x (sym told)) more

pub waits_awaited : {R S : Type 0} (u : Subject) (s : State) (r : Asks R) (rest : R → Asks S) (i : Item) → IsScene u s → Waits i ≡ tell (sight s) r → AwaitsAt u s (bind r rest) i
waits_awaited u s r rest i scene told = bind_waits u s r rest i (waits_awaits (says_at u) (sight s) (pends_at u) (true_sight u s scene) r i (sym told))

-- ---- a question

-- once it is answered, the step comes to what follows
pub put_comes : (u : Subject) (s : State) (q : Question) (rest : Told → Rule) (told : Told) (next : Step) → says_at u (so_far s) q told → ComesTo u s (rest told) next
    → ComesTo u s (put q rest) next
put_comes u s q rest told (step.Says given) is more = (told, is, more)
put_comes u s q rest told (step.Waits i) is more = inr (told, is, more)
put_comes u s q rest told (step.Puts asked after) is more = record {
  gives = λ m comes. (told, is, more.gives m comes);
  awaits = λ i comes. inr (told, is, more.awaits i comes);
}

pub put_waits : (u : Subject) (s : State) (q : Question) (rest : Told → Rule) (i : Item) → pends_at u (so_far s) q i → AwaitsAt u s (put q rest) i
put_waits u s q rest i is = inl is

-- what closes the goals of a judge that asks: name it in `using(..)`
pub ruleset comings = (bind_comes, bind_waits, same_comes)
