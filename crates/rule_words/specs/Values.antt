-- Values of operands, and shifts that have none (Go 1.17, "Operators", "Assignability").
use Rattle.std.specs.Prelude.{Bool, true, false, not, ◌&&◌, if◌then◌else◌, Option, Some, None}
use Rattle.gv_base.specs.declared.constant.Const.{Const}
use Rattle.type_model.specs.GoTypes.{GoType}
use Rattle.type_rel.specs.Kinds.{is_integer, is_untyped}
use Rattle.typed_marks.specs.Meanings.{Known}
use Rattle.rule_words.specs.Types.{is_of}

abbrev pub has_value : Option Const → Bool
has_value None = false
has_value (Some c) = true

-- an untyped integer that is no constant: a shift whose count is none
unfoldable pub is_shifted : Known → Bool
is_shifted x = is_of (λ kind. is_untyped kind && is_integer kind) x.of && not (has_value x.value)

-- A shift that isn't constant is assigned with the type that its operand took.
abbrev pub assigned_type : Known → GoType
assigned_type x = if is_shifted x then x.last else x.of
