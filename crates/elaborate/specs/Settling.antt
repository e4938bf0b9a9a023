-- Questions that are answered, in code.
use Rattle.std.specs.Prelude.{◌≡◌, ◌+◌, ℕ, Bool, true, false, List, Option, Some, None}
use Rattle.mark_walk.specs.Asks.{Adds, Stays}
use Rattle.mark_walk.specs.Telling.{Outcome, Yields, Expects}
use Rattle.typed_marks.specs.declared.item.Item.{Item}
use Rattle.typed_marks.specs.declared.state.State.{State}
use Rattle.typed_marks.specs.Meanings.{Meaning}
use Rattle.typed_marks.specs.declared.mark.ConstId.{ConstId}
use Rattle.type_model.specs.declared.term.TypeId.{TypeId}
use Rattle.typed_marks.specs.States.{so_far}
use Rattle.std.specs.Global.{Vec}
use Rattle.type_model.specs.declared.term.Method.{Method}
use Rattle.type_model.specs.GoTypes.{GoType, MethodsBelow}
use Rattle.type_model.specs.Tables.{count}
use Rattle.method_sets.specs.Replies.{listed_in}
use Rattle.type_questions.specs.declared.reached.Reached.{Reached}
use Rattle.type_questions.specs.declared.reached.Reached.TheVariants.{Got, Lost}
use Rattle.type_questions.specs.Judging.{seen_as}
use Rattle.type_questions.specs.declared.reached.Found.{Found}
use Rattle.type_questions.specs.declared.reached.Found.TheVariants as f
use Rattle.type_questions.specs.Questions.{Question, IsComparable, Told, Holds, Listing}
use Rattle.unit_read.specs.declared.subject.Subject.{Subject}
use Rattle.unit_read.specs.Subjects.{full_of}
use Rattle.rule_words.specs.declared.answer.Answer.{Answer}
use Rattle.rule_words.specs.declared.answer.Answer.TheVariants as answer
use Rattle.typed_marks.specs.declared.mark.Mark.TheVariants.{Silent}
use Rattle.rule_words.specs.declared.step.Asked.TheVariants as q
use Rattle.rule_words.specs.declared.step.Step.{Step}
use Rattle.rule_words.specs.declared.step.Step.TheVariants as step
use Rattle.rule_words.specs.declared.step.Rest.{Rest}
use Rattle.rule_words.specs.declared.step.Rest.TheVariants as r
use Rattle.rule_words.specs.Answers.{answer_in, IsAnswerOf}
use Rattle.rule_words.specs.Asking.{Rule}
use Rattle.rule_words.specs.Steps.{step_in}
use Rattle.elaborate.specs.declared.questions.Answered.{Answered}
use Rattle.elaborate.specs.declared.questions.Answered.TheVariants as a
use Rattle.type_answers.specs.Answering.{says_of, pends_of}
use Rattle.type_answers.specs.Coming.{GivesAt, AwaitsAt}

abbrev pub told_in : State → Answered → Told
told_in s (a.Holds reached) = Holds reached
told_in s (a.Methods reached) = Listing (seen_as (λ (methods : Vec Method). listed_in s.table methods.items) reached)

-- the methods that were told are over the table
abbrev pub IsToldOf : State → Answered → Type 0
IsToldOf s (a.Holds reached) = Unit {0}
IsToldOf s (a.Methods (Got methods)) = MethodsBelow (count s.table) methods.items
IsToldOf s (a.Methods Lost) = Unit {0}

-- how many questions may still come
abbrev pub rest_left : Rest → ℕ
rest_left (r.Held good rule) = 0
rest_left (r.HeldBy of value to good rule) = 1
rest_left (r.Second p) = 1
rest_left (r.Other p) = 2
rest_left (r.OtherBy p) = 3
rest_left (r.Either p) = 4
rest_left (r.EitherBy p) = 5

abbrev pub left : Step → ℕ
left (step.Says given) = 0
left (step.Waits item) = 0
left (step.Puts asked rest) = 1 + rest_left rest

abbrev pub YieldsAt : Subject → State → Step → Meaning → Type 0
YieldsAt u s x m = Yields (says_of (full_of u)) (so_far s) (step_in s x) m

abbrev pub ExpectsAt : Subject → State → Step → Item → Type 0
ExpectsAt u s x i = Expects (says_of (full_of u)) (pends_of (full_of u)) (so_far s) (step_in s x) i

-- what comes of one step comes of another
pub record Follows (u : Subject) (s : State) (first next : Step) : Type 0 where
  pub yields : (m : Meaning) → YieldsAt u s next m → YieldsAt u s first m
  pub expects : (i : Item) → ExpectsAt u s next i → ExpectsAt u s first i

-- what a step comes to: an answer, or an item for which it waits
abbrev pub IsSettled : Subject → State → Step → Found Answer Item → Type 0
IsSettled u s first (f.Is given) = IsAnswerOf s given × YieldsAt u s first (answer_in s given)
IsSettled u s first (f.Wait item) = ExpectsAt u s first item

-- an answer to a question over the marks so far, or an item for which it waits
abbrev pub IsAnsweredTo : Subject → State → Question → Found Answered Item → Type 0
IsAnsweredTo u s q (f.Is told) = IsToldOf s told × says_of (full_of u) (so_far s) q (told_in s told)
IsAnsweredTo u s q (f.Wait item) = pends_of (full_of u) (so_far s) q item

-- what is put once an operand's methods are told
abbrev pub by_methods : Reached (Vec Method) → TypeId → Option ConstId → TypeId → Rest → Step
by_methods (Got methods) of value to rest = step.Puts (q.AssignableBy of value methods to) rest
by_methods Lost of value to rest = step.Says (answer.Mark Silent)

-- what a step comes to; a question waits, and is no outcome
abbrev pub outcome_of : Step → Found Answer Item
outcome_of (step.Says given) = f.Is given
outcome_of (step.Waits item) = f.Wait item
outcome_of (step.Puts asked rest) = f.Is (answer.Mark Silent)

-- One step of marking, by the item's rule: the item is marked with what it gives, or it waits for another.
abbrev pub StepsAs : Subject → State → State → Item → Rule → Option Item → Type 0
StepsAs u s next i rule None = (m : Meaning) × GivesAt u s rule m × Adds (so_far s) (so_far next) i m
StepsAs u s next i rule (Some j) = AwaitsAt u s rule j × Stays (so_far s) (so_far next)

-- One step of marking, by how far the item's rule goes: the item is marked, or its rule waits for another.
abbrev pub StepsBy : Subject → State → State → Item → Outcome Item Meaning Question Told Meaning → Option Item → Type 0
StepsBy u s next i outcome None = (m : Meaning) × Yields (says_of (full_of u)) (so_far s) outcome m × Adds (so_far s) (so_far next) i m
StepsBy u s next i outcome (Some j) = Expects (says_of (full_of u)) (pends_of (full_of u)) (so_far s) outcome j × Stays (so_far s) (so_far next)

abbrev pub is_got : Reached Bool → Bool
is_got (Got b) = true
is_got Lost = false

-- whether all is declared that a type holds: an answer to the question whether its values may be compared, or an item for which that waits
abbrev pub IsWholeBy : Subject → State → GoType → Found Bool Item → Type 0
IsWholeBy u s of (f.Is true) = (b : Bool) × says_of (full_of u) (so_far s) (IsComparable of) (Holds (Got b))
IsWholeBy u s of (f.Is false) = says_of (full_of u) (so_far s) (IsComparable of) (Holds Lost)
IsWholeBy u s of (f.Wait item) = pends_of (full_of u) (so_far s) (IsComparable of) item
