use Rattle.std.proofs.Common.{◌≡◌, ◌-◌, map}
use Rattle.gv_bytes.specs.Reading.{each_at}
use Rattle.gv_bytes.proofs.Loops.{with_front}
use Rattle.type_model.specs.GoTypes.{MethodsBelow}
use Rattle.type_model.specs.Parts.{method_of}
use Rattle.type_model.specs.Tables.{IsTable, Grown, types_in, count}
use Rattle.export_text.specs.Faces.{method_at}
use Rattle.export_text.proofs.method_reading.read_methods.Given as goal

abbrev pub invariant-loop : goal.invariant-loop
invariant-loop l =
    record {
      grown : Grown l.fn.table l.table;
      table : IsTable l.table;
      is : with_front (map (λ m. method_of (types_in l.table) m) l.methods.items) (each_at method_at (l.count - l.counter) l.rest) ≡ each_at method_at l.count l.bytes;
      below : MethodsBelow (count l.table) l.methods.items;
    }
