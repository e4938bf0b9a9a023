use Rattle.std.proofs.Common.{◌≡◌, ◌-◌, map}
use Rattle.gv_bytes.specs.Reading.{each_at}
use Rattle.gv_bytes.proofs.Loops.{with_front}
use Rattle.package_faces.specs.Interfaces.{defined_in, AreDefinedIn}
use Rattle.type_model.specs.Tables.{IsTable, Grown, types_in, count}
use Rattle.export_text.specs.Faces.{defined_at}
use Rattle.export_text.proofs.interface_reading.read_defineds.Given as goal

abbrev pub invariant-loop : goal.invariant-loop
invariant-loop l =
    record {
      grown : Grown l.fn.table l.table;
      table : IsTable l.table;
      is : with_front (map (λ d. defined_in (types_in l.table) d) l.types.items) (each_at defined_at (l.count - l.counter) l.rest) ≡ each_at defined_at l.count l.bytes;
      below : AreDefinedIn (count l.table) l.types.items;
    }
