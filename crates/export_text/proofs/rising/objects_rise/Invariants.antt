use Rattle.std.proofs.Common.{◌≡◌, length, map}
use Rattle.package_faces.specs.Interfaces.{object_in}
use Rattle.type_model.specs.Tables.{types_in}
use Rattle.package_faces.specs.Orders.{rises, rises_after, object_before}
use Rattle.export_text.proofs.rising.objects_rise.Given as goal

abbrev pub invariant-loop-rest : goal.invariant-loop-rest
invariant-loop-rest l = rises_after object_before (object_in (types_in l._table) l.last) (map (λ o. object_in (types_in l._table) o) l.rest) ≡ rises object_before (map (λ o. object_in (types_in l._table) o) l.objects)

abbrev pub decreases-loop-rest : goal.decreases-loop-rest
decreases-loop-rest l = length l.rest
