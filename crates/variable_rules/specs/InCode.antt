-- Types that values give, in code.
use Rattle.std.specs.Prelude.{List, map}
use Rattle.type_model.specs.declared.term.TypeId.{TypeId}
use Rattle.type_model.specs.GoTypes.{GoType}
use Rattle.typed_marks.specs.declared.state.State.{State}
use Rattle.rule_words.specs.Scenes.{type_in}

abbrev pub types_of : State → List TypeId → List GoType
types_of s ids = map (type_in s) ids
