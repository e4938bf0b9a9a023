use Rattle.std.proofs.Common.{◌≡◌, ◌++◌, take}
use Rattle.vet_printf.specs.InTable.{field_ids}
use Rattle.vet_printf.proofs.shapes.push_fields.Given as goal

abbrev pub invariant-loop-field : goal.invariant-loop-field
invariant-loop-field l = l.ids.items ≡ l.fn.ids.items ++ field_ids (take l.field-index l.fields)
