-- What a judge hands on as it got it comes to what it came to there.
use Rattle.std.proofs.Common.{◌≡◌}
use Rattle.rule_words.specs.Scenes.{IsScene, sight}
use Rattle.std.specs.Prelude.{Result, Ok, Err, IfOk}
use Rattle.mark_walk.specs.Telling.{tell}
use Rattle.typed_marks.specs.declared.state.State.{State}
use Rattle.unit_read.specs.declared.subject.Subject.{Subject}
use Rattle.rule_words.specs.declared.step.Step.{Step}
use Rattle.rule_words.specs.Asking.{Rule}
use Rattle.rule_words.specs.Steps.{step_in}
use Rattle.type_answers.specs.Coming.{ComesTo}
use Rattle.type_answers.proofs.ComingLaws.{same_comes}

-- a step that is what is told of the rule
pub same_passes : {E : Type 0} (u : Subject) (s : State) (rule : Rule) (r : Result Step E) → IsScene u s → IfOk r (λ x. step_in s x ≡ tell (sight s) rule) → IfOk r (ComesTo u s rule)
same_passes u s rule (Ok x) scene is = same_comes u s rule x scene is
same_passes u s rule (Err e) scene is = tt
