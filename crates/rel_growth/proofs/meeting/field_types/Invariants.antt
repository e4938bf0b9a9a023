use Rattle.std.proofs.Common.{◌≡◌, map, take}
use Rattle.type_model.specs.declared.term.Field.{Field}
use Rattle.rel_growth.proofs.meeting.field_types.Given as goal

abbrev pub invariant-loop-field : goal.invariant-loop-field
invariant-loop-field l = l.types.items ≡ map (λ (f : Field). f.of) (take l.field-index l.fields)
