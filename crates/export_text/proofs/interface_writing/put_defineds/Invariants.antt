use Rattle.std.proofs.Common.{◌≡◌, ◌++◌, flat_map, length, map, take}
use Rattle.std.specs.List.{AllByRecursion}
use Rattle.gv_bytes.specs.Spelling.{natural}
use Rattle.package_faces.specs.declared.interface.ExportedType.{ExportedType}
use Rattle.type_model.specs.Tables.{types_in}
use Rattle.export_text.specs.Faces.{defined_text, IsDefinedOut}
use Rattle.package_faces.specs.Interfaces.{defined_in}
use Rattle.export_text.proofs.interface_writing.put_defineds.Given as goal

abbrev pub invariant-loop-defined : goal.invariant-loop-defined
invariant-loop-defined l =
    record {
      written : l.out.items ≡ (l.fn.out.items ++ natural (length l.types)) ++ flat_map defined_text (take l.defined-index (map (λ (d : ExportedType). defined_in (types_in l.table) d) l.types));
      fits : AllByRecursion IsDefinedOut (take l.defined-index (map (λ (d : ExportedType). defined_in (types_in l.table) d) l.types));
    }
