-- What is wanted, in code.
use Rattle.std.specs.Prelude.{◌≡◌, true, Option, None}
use Rattle.typed_tree.specs.declared.mark.Mode.{Mode}
use Rattle.typed_marks.specs.Meanings.{wish_in, IsWantWithin, Meaning, Right}
use Rattle.type_model.specs.Tables.{types_in, count}
use Rattle.type_model.specs.GoTypes.{GoType}
use Rattle.typed_marks.specs.declared.state.State.{State}
use Rattle.rule_words.specs.declared.wanted.Wanted.{Wanted as InCode}
use Rattle.rule_words.specs.Words.{Wanted}

abbrev pub wanted_of : State → InCode → Wanted
wanted_of s w = record { demand = w.demand; wish = wish_in (types_in s.table) w.want }

abbrev pub IsWantedOf : State → InCode → Type 0
IsWantedOf s w = IsWantWithin (count s.table) w.want
