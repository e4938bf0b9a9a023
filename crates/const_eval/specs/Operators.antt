-- The operators of constant expressions and the marks that spell them: Go 1.17, "Operators and punctuation".
use Rattle.std.specs.Prelude.{ℕ, List, [], ◌∷◌, Option, Some, None, slice_get}
use Rattle.std.specs.Option.{option_flatten}
use Rattle.const_eval.specs.declared.operator.Operator.{Operator}
use Rattle.const_eval.specs.declared.operator.Operator.TheVariants.{Not, NotEqual, Remainder, And, AndAlso, AndNot, Multiply, Add, Subtract, Divide, Less, ShiftLeft, LessEqual, Equal, Greater, GreaterEqual, ShiftRight, Xor, Or, OrElse}

-- the 47 marks in byte order of their spellings, each with the operator on constants that it spells
abbrev pub marks : List (Option Operator)
marks =
    Some Not  -- !
    ∷ Some NotEqual  -- !=
    ∷ Some Remainder  -- %
    ∷ None  -- %=
    ∷ Some And  -- &
    ∷ Some AndAlso  -- &&
    ∷ None  -- &=
    ∷ Some AndNot  -- &^
    ∷ None  -- &^=
    ∷ None  -- (
    ∷ None  -- )
    ∷ Some Multiply  -- *
    ∷ None  -- *=
    ∷ Some Add  -- +
    ∷ None  -- ++
    ∷ None  -- +=
    ∷ None  -- ,
    ∷ Some Subtract  -- -
    ∷ None  -- --
    ∷ None  -- -=
    ∷ None  -- .
    ∷ None  -- ...
    ∷ Some Divide  -- /
    ∷ None  -- /=
    ∷ None  -- :
    ∷ None  -- :=
    ∷ None  -- ;
    ∷ Some Less  -- <
    ∷ None  -- <-
    ∷ Some ShiftLeft  -- <<
    ∷ None  -- <<=
    ∷ Some LessEqual  -- <=
    ∷ None  -- =
    ∷ Some Equal  -- ==
    ∷ Some Greater  -- >
    ∷ Some GreaterEqual  -- >=
    ∷ Some ShiftRight  -- >>
    ∷ None  -- >>=
    ∷ None  -- [
    ∷ None  -- ]
    ∷ Some Xor  -- ^
    ∷ None  -- ^=
    ∷ None  -- {
    ∷ Some Or  -- |
    ∷ None  -- |=
    ∷ Some OrElse  -- ||
    ∷ None  -- }
    ∷ []

-- the operator of the mark with this number, from 0
abbrev pub operator_of : ℕ → Option Operator
operator_of n = option_flatten (slice_get marks n)
