-- The operators on texts: Go 1.17, "String concatenation" and "Comparison operators".
use Rattle.std.specs.Prelude.{ℕ, List, ◌++◌, not, bytes_eq}
use Rattle.std.specs.Cmp.Lexicographic.{slice_cmp}
use Rattle.std.specs.Ordering.{nat_cmp, is_lt, is_le, is_gt}
use Rattle.const_eval.specs.Answers.{truth, text}
use Rattle.const_eval.specs.declared.answer.ConstAnswer.{ConstAnswer}
use Rattle.const_eval.specs.declared.answer.ConstAnswer.TheVariants.{BadOperands}
use Rattle.const_eval.specs.declared.operator.Operator.{Operator}
use Rattle.const_eval.specs.declared.operator.Operator.TheVariants.{NotEqual, Add, Less, LessEqual, Equal, Greater, GreaterEqual}

-- Texts are ordered by their bytes: the first that differ decide, and a text stands before each longer one that it begins.
abbrev pub on_texts : Operator → List ℕ → List ℕ → ConstAnswer
on_texts Add s t = text (s ++ t)
on_texts Equal s t = truth (bytes_eq s t)
on_texts NotEqual s t = truth (not (bytes_eq s t))
on_texts Less s t = truth (is_lt (slice_cmp nat_cmp s t))
on_texts LessEqual s t = truth (is_le (slice_cmp nat_cmp s t))
on_texts Greater s t = truth (is_gt (slice_cmp nat_cmp s t))
on_texts GreaterEqual s t = truth (not (is_lt (slice_cmp nat_cmp s t)))
on_texts operator s t = BadOperands
