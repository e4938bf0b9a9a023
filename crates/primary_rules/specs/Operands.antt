-- Operands of primary expressions, and what these give (Go 1.17, "Address operators", "Operands").
use Rattle.std.specs.Prelude.{Bool, true, false, if◌then◌else◌, Option, Some, None, option_map}
use Rattle.gv_base.specs.declared.constant.Const.{Const}
use Rattle.mark_walk.specs.Asks.{done}
use Rattle.type_model.specs.GoTypes.{GoType}
use Rattle.typed_tree.specs.declared.mark.Mode.{Mode}
use Rattle.typed_tree.specs.declared.mark.Mode.TheVariants as mode
use Rattle.typed_marks.specs.Meanings.{Known, Meaning, Right, Wrong, Beyond, Quiet, Wishes, Declares}
use Rattle.rule_words.specs.Asking.{Rule}
use Rattle.rule_words.specs.Parts.{Part}

-- an operand: what it stands for, its type, its value where it is a constant, its final type and the underlying type of that
pub record Operand : Type 0 where
  pub mode : Mode
  pub of : GoType
  pub value : Option Const
  pub last : GoType
  pub under : GoType

abbrev pub operand_of : Known → GoType → Operand
operand_of x under = record { mode = x.mode; of = x.of; value = x.value; last = x.last; under = under }

abbrev pub good_operand : Option GoType → Meaning → Option Operand
good_operand under (Right x) = option_map (operand_of x) under
good_operand under (Wrong rule) = None
good_operand under (Beyond limit) = None
good_operand under Quiet = None
good_operand under (Wishes demand wish) = None
good_operand under (Declares d) = None

-- the operand that a part is, where it is good
unfoldable pub operand_at : Part → Option Operand
operand_at p = good_operand p.under p.mark

-- what a rule makes of an operand; nothing is said where it isn't good
abbrev pub need_operand : Option Operand → (Operand → Rule) → Rule
need_operand None rest = done Quiet
need_operand (Some x) rest = rest x

-- what stands for a variable has an address
abbrev pub is_variable : Mode → Bool
is_variable mode.Variable = true
is_variable mode.NoValue = false
is_variable mode.TypeName = false
is_variable mode.Constant = false
is_variable mode.MapIndex = false
is_variable mode.Value = false
is_variable mode.CommaOk = false
is_variable mode.Nil = false
is_variable mode.Builtin = false
is_variable mode.Package = false
is_variable mode.Many = false

-- a part of it is a variable where the whole is one
abbrev pub part_mode : Bool → Mode
part_mode addressable = if addressable then mode.Variable else mode.Value

-- what has this type, which is its final type too
abbrev pub standing : Mode → GoType → Meaning
standing mode of = Right (record { mode = mode; of = of; value = None; last = of })
