-- What holds of a step holds of it in few bytes.
use Rattle.std.proofs.Common.{◌≡◌, sym, subst}
use Rattle.rule_words.specs.Scenes.{sight, IsScene}
use Rattle.std.specs.Prelude.{Result, Ok, Err, IfOk}
use Rattle.mark_walk.specs.Asks.{bind}
use Rattle.mark_walk.specs.Telling.{tell}
use Rattle.typed_marks.specs.declared.state.State.{State}
use Rattle.unit_read.specs.declared.subject.Subject.{Subject}
use Rattle.rule_words.specs.declared.step.Step.{Step}
use Rattle.rule_words.specs.Asking.{Asks, Rule}
use Rattle.rule_words.specs.Steps.{step_in}
use Rattle.type_answers.specs.Coming.{GivesAt}
use Rattle.type_answers.proofs.ComingLaws.{same_comes, bind_comes}
use Rattle.elaborate.specs.declared.briefly.Brief.{Brief}
use Rattle.elaborate.specs.Briefs.{step_of, ComesBriefly}

pub brief_passes : {E : Type 0} (Holds : Step → Type 0) (r : Result Brief E) (x : Step) → IfOk r (λ brief. step_of brief ≡ x) → Holds x → IfOk r (λ brief. Holds (step_of brief))
brief_passes Holds (Ok brief) x same holds = subst Holds (sym same) holds
brief_passes Holds (Err e) x same holds = tt

-- a step that is what is told of the rule
pub same_briefly : {E : Type 0} (u : Subject) (s : State) (rule : Rule) (r : Result Brief E) → IsScene u s → IfOk r (λ brief. step_in s (step_of brief) ≡ tell (sight s) rule) → IfOk r (ComesBriefly u s rule)
same_briefly u s rule (Ok brief) scene is = same_comes u s rule (step_of brief) scene is
same_briefly u s rule (Err e) scene is = tt

-- the inner rule gave this, and the step comes to what follows
pub bind_briefly : {E R : Type 0} (u : Subject) (s : State) (r : Asks R) (rest : R → Rule) (x : R) (next : Result Brief E) → GivesAt u s r x → IfOk next (ComesBriefly u s (rest x))
    → IfOk next (ComesBriefly u s (bind r rest))
bind_briefly u s r rest x (Ok brief) first more = bind_comes u s r rest x (step_of brief) first more
bind_briefly u s r rest x (Err e) first more = tt
