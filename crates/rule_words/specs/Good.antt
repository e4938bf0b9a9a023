-- Good parts.
use Rattle.std.specs.Prelude.{length, Option, Some, None}
use Rattle.std.specs.Option.{option_map_or}
use Rattle.type_model.specs.Tables.{types_in, count}
use Rattle.mark_walk.specs.Asks.{done}
use Rattle.typed_marks.specs.declared.mark.Facts.{Facts}
use Rattle.typed_marks.specs.declared.state.State.{State}
use Rattle.typed_marks.specs.Meanings.{Known, Meaning, Right, Wrong, Beyond, Quiet, Wishes, Declares, known_in, AreWithin}
use Rattle.rule_words.specs.Asking.{Rule}

-- what is known of what is good
abbrev pub known_told : Meaning → Option Known
known_told (Right x) = Some x
known_told (Wrong rule) = None
known_told (Beyond limit) = None
known_told Quiet = None
known_told (Wishes demand wish) = None
known_told (Declares d) = None

-- what a rule makes of a part; nothing is said where the part isn't good
abbrev pub given : Meaning → (Known → Rule) → Rule
given m rest = option_map_or rest (known_told m) (done Quiet)

-- ---- in code

abbrev pub known_of : State → Facts → Known
known_of s f = known_in (types_in s.table) s.constants.items f

abbrev pub AreFactsOf : State → Facts → Type 0
AreFactsOf s f = AreWithin (count s.table) (length s.constants.items) f
