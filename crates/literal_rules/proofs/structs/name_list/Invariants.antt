use Rattle.std.proofs.Common.{◌≡◌, map, take}
use Rattle.type_model.specs.declared.term.Field.{Field}
use Rattle.unit_read.specs.Index.{texts_of}
use Rattle.literal_rules.proofs.structs.name_list.Given as goal

abbrev pub invariant-loop-field : goal.invariant-loop-field
invariant-loop-field l = texts_of l.list.items ≡ map (λ (f : Field). f.name) (take l.field-index l.fields)
