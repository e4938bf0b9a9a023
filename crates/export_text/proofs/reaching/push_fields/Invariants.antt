use Rattle.std.proofs.Common.{◌≡◌, ◌++◌, map, take}
use Rattle.type_model.specs.declared.term.Field.{Field}
use Rattle.export_text.proofs.reaching.push_fields.Given as goal

abbrev pub invariant-loop-field : goal.invariant-loop-field
invariant-loop-field l = l.out.items ≡ l.fn.out.items ++ map (λ (f : Field). f.of) (take l.field-index l.fields)
