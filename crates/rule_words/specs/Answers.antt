-- What rules give, with types and constants themselves in place of their numbers.
use Rattle.std.specs.Prelude.{◌≡◌, ℕ, nat_le, Bool, true, false, if◌then◌else◌, Option, Some, None}
use Rattle.gv_base.specs.declared.constant.Const.{Const}
use Rattle.type_model.specs.GoTypes.{GoType, nodes, type_of, IsOver}
use Rattle.type_model.specs.Orders.{IsOrdered}
use Rattle.type_model.specs.Tables.{types_in, count}
use Rattle.type_model.specs.declared.table.Added.{Added}
use Rattle.type_model.specs.declared.table.Added.TheVariants.{Id, TooWide}
use Rattle.typed_tree.specs.declared.mark.Mode.{Mode}
use Rattle.typed_tree.specs.declared.mark.Mode.TheVariants.{Constant}
use Rattle.typed_tree.specs.declared.rule.Limit.TheVariants.{WideType}
use Rattle.typed_marks.specs.declared.mark.Mark.{Mark}
use Rattle.typed_marks.specs.declared.mark.Mark.TheVariants as m
use Rattle.typed_marks.specs.declared.state.State.{State}
use Rattle.typed_marks.specs.Meanings.{Meaning, Right, Beyond}
use Rattle.rule_words.specs.declared.answer.Answer.{Answer}
use Rattle.rule_words.specs.declared.answer.Answer.TheVariants as a
use Rattle.rule_words.specs.Scenes.{said, IsMarkOf, type_in, IsTypeOf}

-- a good mark of a type that is its own final type; a type of more than 10,000 nodes lies outside the profile
abbrev pub typed : Mode → GoType → Meaning
typed mode of = if nat_le (nodes of) 10000 then Right (record { mode = mode; of = of; value = None; last = of }) else Beyond WideType

-- a constant, and its final type
abbrev pub constant : GoType → GoType → Const → Meaning
constant of last c = Right (record { mode = Constant; of = of; value = Some c; last = last })

abbrev pub answer_in : State → Answer → Meaning
answer_in s (a.Mark mark) = said s mark
answer_in s (a.Type mode term) = typed mode (type_of (types_in s.table) term)
answer_in s (a.Constant of last c) = constant (type_in s of) (type_in s last) c

-- the mark declares no type
abbrev pub is_plain : Mark → Bool
is_plain (m.Good facts) = true
is_plain (m.Bad rule) = true
is_plain (m.Outside limit) = true
is_plain m.Silent = true
is_plain (m.Wants demand want) = true
is_plain (m.Declared of) = false

-- its numbers stand in the tables
abbrev pub IsAnswerOf : State → Answer → Type 0
IsAnswerOf s (a.Mark mark) = IsMarkOf s mark × (is_plain mark ≡ true)
IsAnswerOf s (a.Type mode term) = IsOver (count s.table) term × IsOrdered term
IsAnswerOf s (a.Constant of last c) = IsTypeOf s of × IsTypeOf s last

-- the mark of a type that was added
abbrev pub mark_of : Mode → Added → Mark
mark_of mode (Id id) = m.Good (record { mode = mode; of = id; value = None; last = id })
mark_of mode TooWide = m.Outside WideType
