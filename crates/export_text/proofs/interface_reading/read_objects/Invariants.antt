use Rattle.std.proofs.Common.{◌≡◌, ◌-◌, map}
use Rattle.gv_bytes.specs.Reading.{each_at}
use Rattle.gv_bytes.proofs.Loops.{with_front}
use Rattle.package_faces.specs.Interfaces.{object_in, AreObjectsIn}
use Rattle.type_model.specs.Tables.{IsTable, Grown, types_in, count}
use Rattle.export_text.specs.Faces.{object_at}
use Rattle.export_text.proofs.interface_reading.read_objects.Given as goal

abbrev pub invariant-loop : goal.invariant-loop
invariant-loop l =
    record {
      grown : Grown l.fn.table l.table;
      table : IsTable l.table;
      is : with_front (map (λ o. object_in (types_in l.table) o) l.objects.items) (each_at object_at (l.count - l.counter) l.rest) ≡ each_at object_at l.count l.bytes;
      own : AreObjectsIn l.path (count l.table) (types_in l.table) l.objects.items;
    }
