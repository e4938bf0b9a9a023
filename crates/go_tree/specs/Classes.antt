-- The classes of tokens that the grammar tells apart, as numbers.
use Rattle.std.specs.Prelude.{ℕ, suc, ◌+◌, Bool, List, [], ◌∷◌, ◌==◌, cond, ◌||◌, ◌&&◌, nat_lt, map, drop, slice_index}
use Rattle.go_tree.specs.declared.token.Token.{Token}
use Rattle.go_tree.specs.declared.token.TokenKind.{TokenKind}
use Rattle.go_tree.specs.declared.token.TokenKind.TheVariants.{Name, Int, Float, Imag, Rune, Text, Keyword, Mark, Semi}

-- the class of each mark, in byte order of their spellings; a written semicolon is no mark
abbrev pub mark_classes : List ℕ
mark_classes =
    47  -- !
    ∷ 53  -- !=
    ∷ 60  -- %
    ∷ 67  -- %=
    ∷ 63  -- &
    ∷ 65  -- &&
    ∷ 67  -- &=
    ∷ 64  -- &^
    ∷ 67  -- &^=
    ∷ 36  -- (
    ∷ 37  -- )
    ∷ 58  -- *
    ∷ 67  -- *=
    ∷ 48  -- +
    ∷ 44  -- ++
    ∷ 67  -- +=
    ∷ 32  -- ,
    ∷ 49  -- -
    ∷ 45  -- --
    ∷ 67  -- -=
    ∷ 34  -- .
    ∷ 35  -- ...
    ∷ 59  -- /
    ∷ 67  -- /=
    ∷ 33  -- :
    ∷ 43  -- :=
    ∷ 74  -- ;
    ∷ 54  -- <
    ∷ 46  -- <-
    ∷ 61  -- <<
    ∷ 67  -- <<=
    ∷ 55  -- <=
    ∷ 42  -- =
    ∷ 52  -- ==
    ∷ 56  -- >
    ∷ 57  -- >=
    ∷ 62  -- >>
    ∷ 67  -- >>=
    ∷ 38  -- [
    ∷ 39  -- ]
    ∷ 51  -- ^
    ∷ 67  -- ^=
    ∷ 40  -- {
    ∷ 50  -- |
    ∷ 67  -- |=
    ∷ 66  -- ||
    ∷ 41  -- }
    ∷ []

-- The class of a token of a kind: names, literals, the keywords in their order, the semicolon, the marks. 74 is that of no token.
abbrev pub kind_class : TokenKind → ℕ
kind_class Name = 0
kind_class Int = 1
kind_class Float = 2
kind_class Imag = 3
kind_class Rune = 4
kind_class Text = 5
kind_class (Keyword place) = cond (nat_lt place 25) (place + 6) 74
kind_class Semi = 31
kind_class (Mark place) = cond (nat_lt place 47) (slice_index mark_classes place) 74

-- the name that is one low line
abbrev pub is_blank : List ℕ → Token → Bool
is_blank source token = token.end == suc token.start && slice_index source token.start == 95

-- the class of a token in its source: 76 is that of the name `_`
abbrev pub class_in : List ℕ → Token → ℕ
class_in source token = cond (kind_class token.kind == 0 && is_blank source token) 76 (kind_class token.kind)

abbrev pub classes : List ℕ → List Token → List ℕ
classes source tokens = map (class_in source) tokens

-- The class that the grammar reads of a token of a class, before two others: 68 `.(`, 69 `.(type`, 70 `[...`, 71 `:= range`, 72 `= range`, 73 `,)`.
abbrev pub told : ℕ → ℕ → ℕ → ℕ
told a b d =
    cond (a == 34 && b == 36) (cond (d == 29) 69 68)
    (cond (a == 38 && b == 35) 70
    (cond (a == 43 && b == 24) 71
    (cond (a == 42 && b == 24) 72
    (cond (a == 32 && b == 37) 73
    (cond (nat_lt a 77) a 74)))))

-- the class of the next token, 75 at the end
abbrev pub ahead : List ℕ → ℕ
ahead [] = 75
ahead (x ∷ xs) = x

-- the class that the grammar reads of the next token
abbrev pub next : List ℕ → ℕ
next xs = told (ahead xs) (ahead (drop 1 xs)) (ahead (drop 2 xs))

-- The level of an operator or a suffix of an operand: 2 for `||` to 6 for `*`, one above the precedence; 8 for `.`, `(` and `[`, 1 for `.(type)`.
abbrev pub level_of : ℕ → ℕ
level_of c =
    cond (nat_lt c 34) 0
    (cond (c == 34 || (c == 36 || (c == 38 || c == 68))) 8
    (cond (nat_lt c 48) 0
    (cond (nat_lt c 52) 5
    (cond (nat_lt c 58) 4
    (cond (nat_lt c 65) 6
    (cond (c == 65) 3
    (cond (c == 66) 2
    (cond (c == 69) 1 0))))))))
