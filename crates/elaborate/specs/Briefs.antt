-- Steps in few bytes.
use Rattle.rule_words.specs.declared.answer.Answer.TheVariants as answer
use Rattle.rule_words.specs.declared.step.Step.{Step}
use Rattle.rule_words.specs.declared.step.Step.TheVariants as step
use Rattle.rule_words.specs.Asking.{Rule}
use Rattle.rule_words.specs.Steps.{IsStepOf}
use Rattle.type_answers.specs.Coming.{ComesTo}
use Rattle.typed_marks.specs.declared.state.State.{State}
use Rattle.unit_read.specs.declared.subject.Subject.{Subject}
use Rattle.elaborate.specs.declared.briefly.Brief.{Brief}
use Rattle.elaborate.specs.declared.briefly.Brief.TheVariants as b

-- the step that it is
abbrev pub step_of : Brief → Step
step_of (b.Mark mark) = step.Says (answer.Mark mark)
step_of (b.Waits item) = step.Waits item
step_of (b.Other other) = other.value

-- what it comes to is what the rule comes to
abbrev pub ComesBriefly : Subject → State → Rule → Brief → Type 0
ComesBriefly u s rule brief = ComesTo u s rule (step_of brief)

abbrev pub IsBriefOf : State → Brief → Type 0
IsBriefOf s brief = IsStepOf s (step_of brief)
