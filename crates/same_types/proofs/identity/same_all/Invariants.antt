use Rattle.std.proofs.Common.{◌≡◌, ◌&&◌}
use Rattle.type_model.specs.Tables.{types_in}
use Rattle.same_types.proofs.ListLemmas.{left, whole}
use Rattle.same_types.proofs.identity.same_all.Given as goal

abbrev pub invariant-loop-i : goal.invariant-loop-i
invariant-loop-i l = (l.same && left (types_in l.t) l.a l.b l.i) ≡ whole (types_in l.t) l.a l.b
