use Rattle.std.proofs.Common.{◌≡◌, length, map}
use Rattle.package_faces.specs.Interfaces.{defined_in}
use Rattle.type_model.specs.Tables.{types_in}
use Rattle.package_faces.specs.Orders.{rises, rises_after, defined_before}
use Rattle.export_text.proofs.rising.defineds_rise.Given as goal

abbrev pub invariant-loop-rest : goal.invariant-loop-rest
invariant-loop-rest l = rises_after defined_before (defined_in (types_in l._table) l.last) (map (λ d. defined_in (types_in l._table) d) l.rest) ≡ rises defined_before (map (λ d. defined_in (types_in l._table) d) l.types)

abbrev pub decreases-loop-rest : goal.decreases-loop-rest
decreases-loop-rest l = length l.rest
