use Rattle.std.proofs.Common.{◌≡◌, length}
use Rattle.type_model.specs.GoTypes.{methods_of}
use Rattle.type_model.specs.Tables.{types_in}
use Rattle.type_texts.specs.Orders.{methods_rise, methods_rise_after}
use Rattle.type_texts.proofs.ordering.in_turn.Given as goal

abbrev pub invariant-loop-rest : goal.invariant-loop-rest
invariant-loop-rest l = methods_rise_after l.last.name l.last.package (methods_of (types_in l._table) l.rest) ≡ methods_rise (methods_of (types_in l._table) l.methods)

abbrev pub decreases-loop-rest : goal.decreases-loop-rest
decreases-loop-rest l = length l.rest
