use Rattle.type_model.specs.GoTypes.{AreBelow}
use Rattle.type_model.specs.Tables.{IsTable, count}
use Rattle.conformance.proofs.types.answers.Given as goal

abbrev pub invariant-loop-bytes : goal.invariant-loop-bytes
invariant-loop-bytes l = IsTable l.t × AreBelow (count l.t) l.ids.items
