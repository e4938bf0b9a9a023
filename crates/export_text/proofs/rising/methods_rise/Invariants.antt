use Rattle.std.proofs.Common.{◌≡◌, length, map}
use Rattle.type_model.specs.Parts.{method_of}
use Rattle.type_model.specs.Tables.{types_in}
use Rattle.package_faces.specs.Orders.{rises, rises_after, method_before}
use Rattle.export_text.proofs.rising.methods_rise.Given as goal

abbrev pub invariant-loop-rest : goal.invariant-loop-rest
invariant-loop-rest l = rises_after method_before (method_of (types_in l._table) l.last) (map (λ m. method_of (types_in l._table) m) l.rest) ≡ rises method_before (map (λ m. method_of (types_in l._table) m) l.methods)

abbrev pub decreases-loop-rest : goal.decreases-loop-rest
decreases-loop-rest l = length l.rest
