-- Operands in code, with types and constants by number.
use Rattle.std.specs.Prelude.{length}
use Rattle.typed_marks.specs.declared.state.State.{State}
use Rattle.typed_marks.specs.Meanings.{constant_at, IsValueWithin}
use Rattle.rule_words.specs.Scenes.{type_in, IsTypeOf}
use Rattle.op_rules.specs.declared.operand.Operand.{Operand as InCode}
use Rattle.op_rules.specs.Operands.{Operand}

abbrev pub operand_in : State → InCode → Operand
operand_in s x = record { of = type_in s x.of; value = constant_at s.constants.items x.value; at = type_in s x.at; under = type_in s x.under }

pub record IsOperandOf (s : State) (x : InCode) : Type 0 where
  pub of : IsTypeOf s x.of
  pub value : IsValueWithin (length s.constants.items) x.value
  pub at : IsTypeOf s x.at
  pub under : IsTypeOf s x.under
