-- Parameters in code.
use Rattle.type_model.specs.GoTypes.{types_at, AreBelow}
use Rattle.type_model.specs.Tables.{types_in, count}
use Rattle.typed_marks.specs.declared.state.State.{State}
use Rattle.type_rules.specs.declared.taken.Taken.{Taken}
use Rattle.type_rules.specs.Signatures.{Params}

abbrev pub taken_in : State → Taken → Params
taken_in s t = record { types = types_at (types_in s.table) t.types.items; variadic = t.variadic }

abbrev pub IsTakenOf : State → Taken → Type 0
IsTakenOf s t = AreBelow (count s.table) t.types.items
