-- What code comes to that follows a rule and answers its questions itself: what the rule comes to.
use Rattle.std.specs.Prelude.{Option}
use Rattle.mark_walk.specs.Asks.{Gives, Awaits, put}
use Rattle.type_questions.specs.declared.reached.Found.{Found}
use Rattle.type_questions.specs.declared.reached.Found.TheVariants as f
use Rattle.type_questions.specs.Questions.{Question, Told}
use Rattle.typed_marks.specs.declared.item.Item.{Item}
use Rattle.typed_marks.specs.declared.state.State.{State}
use Rattle.typed_marks.specs.Meanings.{Meaning}
use Rattle.typed_marks.specs.States.{so_far}
use Rattle.unit_read.specs.declared.subject.Subject.{Subject}
use Rattle.unit_read.specs.Subjects.{full_of}
use Rattle.rule_words.specs.declared.step.Asked.{Asked}
use Rattle.rule_words.specs.declared.step.Rest.{Rest}
use Rattle.rule_words.specs.declared.step.Step.{Step}
use Rattle.rule_words.specs.declared.step.Step.TheVariants as step
use Rattle.rule_words.specs.Answers.{answer_in}
use Rattle.rule_words.specs.Asking.{Asks, Rule}
use Rattle.rule_words.specs.Steps.{question_in, rest_in}
use Rattle.type_answers.specs.Answering.{says_of, pends_of}

-- The answers to a package's questions, and the items for which they wait, closed: proofs that put judges together don't look into them.
unfoldable pub says_at : Subject → (Item → Option Meaning) → Question → Told → Type 0
says_at u so_far q told = says_of (full_of u) so_far q told

unfoldable pub pends_at : Subject → (Item → Option Meaning) → Question → Item → Type 0
pends_at u so_far q i = pends_of (full_of u) so_far q i

-- over the marks so far this is given
abbrev pub GivesAt : {R : Type 0} → Subject → State → Asks R → R → Type 0
GivesAt u s r x = Gives (says_at u) (so_far s) r x

-- over the marks so far this item is waited for
abbrev pub AwaitsAt : {R : Type 0} → Subject → State → Asks R → Item → Type 0
AwaitsAt u s r i = Awaits (says_at u) (pends_at u) (so_far s) r i

-- What was found is what is asked for, or an item for which that waits. `told` says what stands for what was found.
abbrev pub FoundBy : {T R : Type 0} → Subject → State → (T → R) → Asks R → Found T Item → Type 0
FoundBy u s told r (f.Is x) = GivesAt u s r (told x)
FoundBy u s told r (f.Wait i) = AwaitsAt u s r i

-- a question that was put in the rule's course: what comes of it comes of the rule
pub record Leads (u : Subject) (s : State) (rule : Rule) (asked : Asked) (rest : Rest) : Type 0 where
  pub gives : (m : Meaning) → GivesAt u s (put (question_in s asked) (rest_in s rest)) m → GivesAt u s rule m
  pub awaits : (i : Item) → AwaitsAt u s (put (question_in s asked) (rest_in s rest)) i → AwaitsAt u s rule i

-- What a step comes to is what the rule comes to: a mark that it gives, an item for which it waits.
abbrev pub ComesTo : Subject → State → Rule → Step → Type 0
ComesTo u s rule (step.Says given) = GivesAt u s rule (answer_in s given)
ComesTo u s rule (step.Waits i) = AwaitsAt u s rule i
ComesTo u s rule (step.Puts asked rest) = Leads u s rule asked rest
