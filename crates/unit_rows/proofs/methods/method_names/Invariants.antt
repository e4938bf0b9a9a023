use Rattle.std.proofs.Common.{◌≡◌, map, take}
use Rattle.unit_read.specs.Index.{texts_of}
use Rattle.unit_read.specs.Methods.{method_name}
use Rattle.unit_read.specs.Subjects.{unit_of}
use Rattle.unit_rows.proofs.methods.method_names.Given as goal

abbrev pub invariant-loop-method : goal.invariant-loop-method
invariant-loop-method l = texts_of l.names.items ≡ map (method_name (unit_of l.s)) (take l.method-index l.methods)
