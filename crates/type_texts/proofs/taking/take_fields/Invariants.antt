use Rattle.std.proofs.Common.{◌≡◌, ◌-◌, ◌<◌, map}
use Rattle.type_model.specs.declared.term.Field.{Field}
use Rattle.type_model.specs.GoTypes.{FieldsBelow, NoField}
use Rattle.type_model.specs.Tables.{types_in, count}
use Rattle.type_texts.specs.Building.{and_field, field_off, fields_off, each_off}
use Rattle.type_texts.specs.Values.{field_of, parts_in, Stand}
use Rattle.type_texts.proofs.ValueLaws.{with_front}
use Rattle.type_texts.proofs.taking.take_fields.Given as goal

abbrev pub invariant-loop : goal.invariant-loop
invariant-loop l =
    record {
      is : with_front and_field (map (λ (x : Field). field_of (types_in l.table) x) l.fields.items) (each_off NoField and_field field_off (l.count - l.counter) (parts_in (types_in l.table) l.values.items)) ≡ fields_off l.count (parts_in (types_in l.table) l.fn.values.items);
      below : FieldsBelow (count l.table) l.fields.items;
      stand : Stand (count l.table) l.values.items;
    }
