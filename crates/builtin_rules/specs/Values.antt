-- Values that calls give.
use Rattle.std.specs.Prelude.{None}
use Rattle.type_model.specs.GoTypes.{GoType}
use Rattle.typed_tree.specs.declared.mark.Mode.TheVariants as mode
use Rattle.typed_marks.specs.Meanings.{Meaning, Right}

-- a value of a type that is its own final type
abbrev pub value_of : GoType → Meaning
value_of of = Right (record { mode = mode.Value; of = of; value = None; last = of })
