-- What a mark says, with the type itself in place of its number.
use Rattle.std.specs.Prelude.{◌≡◌, ℕ, ◌<◌, List, Option}
use Rattle.gv_base.specs.declared.constant.Const.{Const}
use Rattle.type_model.specs.GoTypes.{GoType, type_at}
use Rattle.type_model.specs.declared.table.TypeTable.{TypeTable}
use Rattle.type_model.specs.Tables.{types_in, count}
use Rattle.typed_tree.specs.declared.mark.Mode.{Mode}
use Rattle.typed_tree.specs.declared.mark.Facts.{Facts}
use Rattle.typed_tree.specs.declared.mark.Mark.{Mark}
use Rattle.typed_tree.specs.declared.mark.Mark.TheVariants.{Good, Bad, Outside, Silent}
use Rattle.typed_tree.specs.declared.rule.Rule.{Rule}
use Rattle.typed_tree.specs.declared.rule.Limit.{Limit}

pub record Known : Type 0 where
  pub mode : Mode
  pub of : GoType
  pub value : Option Const

pub data Meaning : Type 0 where
  Right : Known → Meaning
  Wrong : Rule → Meaning
  Beyond : Limit → Meaning
  Quiet : Meaning

abbrev pub known_in : List GoType → Facts → Known
known_in types facts = record { mode = facts.mode; of = type_at types facts.of; value = facts.value }

-- what a mark says over these types
abbrev pub mark_in : List GoType → Mark → Meaning
mark_in types (Good facts) = Right (known_in types facts)
mark_in types (Bad rule) = Wrong rule
mark_in types (Outside limit) = Beyond limit
mark_in types Silent = Quiet

-- the type of a mark is one of the first n
abbrev pub IsWithin : ℕ → Mark → Type 0
IsWithin n (Good facts) = facts.of.0 < n
IsWithin n (Bad rule) = Unit {0}
IsWithin n (Outside limit) = Unit {0}
IsWithin n Silent = Unit {0}

-- over the table the mark says this
pub record Means (t : TypeTable) (mark : Mark) (meaning : Meaning) : Type 0 where
  pub within : IsWithin (count t) mark
  pub «is» : mark_in (types_in t) mark ≡ meaning

-- what a rule makes of a part; Silent where the part isn't good
abbrev pub need : Meaning → (Known → Meaning) → Meaning
need (Right x) rest = rest x
need (Wrong rule) rest = Quiet
need (Beyond limit) rest = Quiet
need Quiet rest = Quiet
