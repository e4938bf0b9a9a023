-- Literals (Go 1.17, "Integer literals", "Rune literals", "String literals", "Constants").
use Rattle.std.specs.Prelude.{ℕ, ◌^◌, List, length, pos, nat_lt, nat_le, if◌then◌else◌}
use Rattle.gv_base.specs.declared.constant.Kind.TheVariants as k
use Rattle.gv_base.specs.declared.constant.Const.TheVariants as const
use Rattle.go_tree.specs.Values.{number_of, rune_value, text_value}
use Rattle.typed_tree.specs.declared.rule.Limit.TheVariants.{Wide, LongText}
use Rattle.typed_tree.specs.Meanings.{Meaning, Beyond}
use Rattle.typed_tree.specs.Operands.{constant_mark}

abbrev pub integer_mark : ℕ → Meaning
integer_mark n = if nat_lt n (2 ^ 127) then constant_mark k.UntypedInt (const.Int (pos n)) else Beyond Wide

abbrev pub text_mark : List ℕ → Meaning
text_mark text = if nat_le (length text) 65536 then constant_mark k.UntypedText (const.Text text) else Beyond LongText

-- literals by their bytes
abbrev pub int_literal_mark : List ℕ → Meaning
int_literal_mark bytes = integer_mark (number_of bytes)

abbrev pub rune_literal_mark : List ℕ → Meaning
rune_literal_mark bytes = constant_mark k.UntypedRune (const.Int (pos (rune_value bytes)))

abbrev pub text_literal_mark : List ℕ → Meaning
text_literal_mark bytes = text_mark (text_value bytes)
