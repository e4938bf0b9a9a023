use Rattle.std.proofs.Common.{◌≡◌, ◌++◌, flat_map, length, map, take}
use Rattle.std.specs.List.{AllByRecursion}
use Rattle.gv_bytes.specs.Spelling.{natural}
use Rattle.type_model.specs.declared.term.Method.{Method}
use Rattle.type_model.specs.Parts.{method_of}
use Rattle.type_model.specs.Tables.{types_in}
use Rattle.export_text.specs.Faces.{method_text, IsMethodOut}
use Rattle.export_text.proofs.interface_writing.put_methods.Given as goal

abbrev pub invariant-loop-method : goal.invariant-loop-method
invariant-loop-method l =
    record {
      written : l.out.items ≡ (l.fn.out.items ++ natural (length l.methods)) ++ flat_map method_text (take l.method-index (map (λ (m : Method). method_of (types_in l.table) m) l.methods));
      fits : AllByRecursion IsMethodOut (take l.method-index (map (λ (m : Method). method_of (types_in l.table) m) l.methods));
    }
