use Rattle.std.proofs.Common.{◌≡◌, ◌++◌, flat_map, length, map, take}
use Rattle.std.specs.List.{AllByRecursion}
use Rattle.gv_bytes.specs.Spelling.{natural}
use Rattle.package_faces.specs.declared.interface.Exported.{Exported}
use Rattle.type_model.specs.Tables.{types_in}
use Rattle.export_text.specs.Faces.{object_text, IsObjectOut}
use Rattle.package_faces.specs.Interfaces.{object_in}
use Rattle.export_text.proofs.interface_writing.put_objects.Given as goal

abbrev pub invariant-loop-object : goal.invariant-loop-object
invariant-loop-object l =
    record {
      written : l.out.items ≡ (l.fn.out.items ++ natural (length l.objects)) ++ flat_map object_text (take l.object-index (map (λ (o : Exported). object_in (types_in l.table) o) l.objects));
      fits : AllByRecursion IsObjectOut (take l.object-index (map (λ (o : Exported). object_in (types_in l.table) o) l.objects));
    }
