-- Fields in code.
use Rattle.type_model.specs.declared.term.Field.{Field}
use Rattle.type_model.specs.Parts.{GoField}
use Rattle.typed_marks.specs.declared.state.State.{State}
use Rattle.rule_words.specs.Scenes.{type_in}

abbrev pub field_in : State → Field → GoField
field_in s f = record { name = f.name; owner = f.«package»; embedded = f.embedded; of = type_in s f.of; tag = f.tag }
