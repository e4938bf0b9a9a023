-- The operators on truths: Go 1.17, "Logical operators" and "Comparison operators".
use Rattle.std.specs.Prelude.{Bool, not, ◌&&◌, ◌||◌}
use Rattle.std.specs.Bool.{beq}
use Rattle.const_eval.specs.Answers.{truth}
use Rattle.const_eval.specs.declared.answer.ConstAnswer.{ConstAnswer}
use Rattle.const_eval.specs.declared.answer.ConstAnswer.TheVariants.{BadOperands}
use Rattle.const_eval.specs.declared.operator.Operator.{Operator}
use Rattle.const_eval.specs.declared.operator.Operator.TheVariants.{Not, NotEqual, AndAlso, Equal, OrElse}

abbrev pub on_truths : Operator → Bool → Bool → ConstAnswer
on_truths AndAlso p q = truth (p && q)
on_truths OrElse p q = truth (p || q)
on_truths Equal p q = truth (beq p q)
on_truths NotEqual p q = truth (not (beq p q))
on_truths operator p q = BadOperands

abbrev pub on_truth : Operator → Bool → ConstAnswer
on_truth Not p = truth (not p)
on_truth operator p = BadOperands
