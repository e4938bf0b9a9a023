-- How far code has gone in a rule that puts questions.
use Rattle.std.specs.Prelude.{◌≡◌, true, Option, Some, None}
use Rattle.type_model.specs.GoTypes.{GoType, methods_of, MethodsBelow}
use Rattle.type_model.specs.Tables.{types_in, count}
use Rattle.mark_walk.specs.Telling.{Outcome, Says, Waits, Puts}
use Rattle.typed_marks.specs.declared.item.Item.{Item}
use Rattle.typed_marks.specs.declared.mark.ConstId.{ConstId}
use Rattle.typed_marks.specs.declared.state.State.{State}
use Rattle.typed_marks.specs.Meanings.{Meaning, constant_at}
use Rattle.type_questions.specs.Questions.{Question, AssignableTo, IsComparable, MethodSet, Told}
use Rattle.rule_words.specs.declared.step.Asked.{Asked}
use Rattle.rule_words.specs.declared.step.Asked.TheVariants as q
use Rattle.rule_words.specs.declared.step.Pair.{Pair}
use Rattle.rule_words.specs.declared.step.Rest.{Rest}
use Rattle.rule_words.specs.declared.step.Rest.TheVariants as r
use Rattle.rule_words.specs.declared.step.Step.{Step}
use Rattle.rule_words.specs.declared.step.Step.TheVariants as step
use Rattle.rule_words.specs.Asking.{Rule}
use Rattle.rule_words.specs.Putting.{Compared, plain_assign, held, assigned_with, either, other, second}
use Rattle.rule_words.specs.Scenes.{said, IsMarkOf, type_in, IsTypeOf}
use Rattle.rule_words.specs.Answers.{answer_in, IsAnswerOf, is_plain}

abbrev pub question_in : State → Asked → Question
question_in s (q.Assignable of value to) = plain_assign (type_in s of) (constant_at s.constants.items value) (type_in s to)
question_in s (q.AssignableBy of value methods to) =
    AssignableTo (record { v = type_in s of; value = constant_at s.constants.items value; set = methods_of (types_in s.table) methods.items; to = type_in s to })
question_in s (q.Methods of) = MethodSet (type_in s of)
question_in s (q.Comparable of) = IsComparable (type_in s of)

abbrev pub pair_in : State → Pair → Compared
pair_in s p = record { x = type_in s p.x; y = type_in s p.y; x_interface = p.x_interface; y_interface = p.y_interface; good = said s p.good }

abbrev pub rest_in : State → Rest → Told → Rule
rest_in s (r.Held good rule) = held (said s good) rule
rest_in s (r.HeldBy of value to good rule) = assigned_with (type_in s of) (constant_at s.constants.items value) (type_in s to) (held (said s good) rule)
rest_in s (r.Either p) = either (pair_in s p)
rest_in s (r.EitherBy p) = assigned_with (type_in s p.x) None (type_in s p.y) (either (pair_in s p))
rest_in s (r.Other p) = other (pair_in s p)
rest_in s (r.OtherBy p) = assigned_with (type_in s p.y) None (type_in s p.x) (other (pair_in s p))
rest_in s (r.Second p) = second (pair_in s p)

abbrev pub step_in : State → Step → Outcome Item Meaning Question Told Meaning
step_in s (step.Says answer) = Says (answer_in s answer)
step_in s (step.Waits item) = Waits item
step_in s (step.Puts asked rest) = Puts (question_in s asked) (rest_in s rest)

abbrev pub IsAskedOf : State → Asked → Type 0
IsAskedOf s (q.Assignable of value to) = IsTypeOf s of × IsTypeOf s to
IsAskedOf s (q.AssignableBy of value methods to) = IsTypeOf s of × MethodsBelow (count s.table) methods.items × IsTypeOf s to
IsAskedOf s (q.Methods of) = IsTypeOf s of
IsAskedOf s (q.Comparable of) = IsTypeOf s of

pub record IsPairOf (s : State) (p : Pair) : Type 0 where
  pub x : IsTypeOf s p.x
  pub y : IsTypeOf s p.y
  pub good : IsMarkOf s p.good
  pub plain : is_plain p.good ≡ true

abbrev pub IsRestOf : State → Rest → Type 0
IsRestOf s (r.Held good rule) = IsMarkOf s good × (is_plain good ≡ true)
IsRestOf s (r.HeldBy of value to good rule) = IsTypeOf s of × IsTypeOf s to × IsMarkOf s good × (is_plain good ≡ true)
IsRestOf s (r.Either p) = IsPairOf s p
IsRestOf s (r.EitherBy p) = IsPairOf s p
IsRestOf s (r.Other p) = IsPairOf s p
IsRestOf s (r.OtherBy p) = IsPairOf s p
IsRestOf s (r.Second p) = IsPairOf s p

abbrev pub IsStepOf : State → Step → Type 0
IsStepOf s (step.Says answer) = IsAnswerOf s answer
IsStepOf s (step.Waits item) = Unit {0}
IsStepOf s (step.Puts asked rest) = IsAskedOf s asked × IsRestOf s rest
