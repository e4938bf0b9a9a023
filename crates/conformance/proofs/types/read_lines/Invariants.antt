use Rattle.type_model.specs.GoTypes.{AreBelow}
use Rattle.type_model.specs.Tables.{IsTable, count}
use Rattle.conformance.proofs.types.read_lines.Given as goal

abbrev pub invariant-loop-line : goal.invariant-loop-line
invariant-loop-line l = IsTable l.t × AreBelow (count l.t) l.ids.items
