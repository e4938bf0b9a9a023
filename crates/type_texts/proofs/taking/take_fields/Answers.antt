use Rattle.std.proofs.Common.{◌≡◌, ◌++◌, ◌∷◌, ◌-◌, ◌+◌, ◌<◌, [], List, Some, map, ap, sym, subst, ◌∙◌}
use Rattle.std.specs.Prelude.{All}
use Rattle.std.proofs.lemmas.Result.{err_from_is_err_and}
use Rattle.std.proofs.lemmas.List.Elements.{All-push}
use Rattle.type_model.specs.declared.term.Field.{Field}
use Rattle.type_model.specs.GoTypes.{GoFields, NoField}
use Rattle.type_model.specs.Tables.{types_in, count}
use Rattle.type_texts.specs.Building.{and_field, field_off, fields_off, each_off}
use Rattle.type_texts.specs.Values.{field_of, parts_in}
use Rattle.type_texts.proofs.ValueLaws.{with_front, map_push, goes_on, fails, is_done, fields_fronted}
use Rattle.type_texts.proofs.taking.take_fields.Goals as goal

pub returns-in_err-field-clause-is : goal.returns-in_err-field-clause-is
returns-in_err-field-clause-is c =
    let p = err_from_is_err_and c.from_residual.result c.from_residual.ensures.1 in
    rw (p.1, p.2) (fails NoField and_field field_off c.in_err-field.field-0.0 (map (λ (x : Field). field_of (types_in c.args.table.now) x) c.loop.fields.items) c.args.count c.loop.counter (parts_in (types_in c.args.table.now) c.loop.values.items) (fields_off c.args.count (parts_in (types_in c.args.table.now) c.args.values.now.items)) c.loop-test.true c.in_err-field.ensures.is c.loop.invariant.is)

pub loop-preserved : goal.loop-preserved
loop-preserved c =
    let items : c.push.new.self.items ≡ c.loop.fields.items ++ c.in_ok-field.field ∷ [] = c.in_ok-push.ensures.items in
    record {
      is =
          ap (λ l. with_front and_field l (each_off NoField and_field field_off (c.args.count - (c.loop.counter + 1)) (parts_in (types_in c.args.table.now) c.take_field.new.values.items))) (ap (map (λ (x : Field). field_of (types_in c.args.table.now) x)) items ∙ map_push (λ (x : Field). field_of (types_in c.args.table.now) x) c.loop.fields.items c.in_ok-field.field)
          ∙ goes_on NoField and_field field_off (map (λ (x : Field). field_of (types_in c.args.table.now) x) c.loop.fields.items) c.args.count c.loop.counter (parts_in (types_in c.args.table.now) c.loop.values.items) ((λ (x : Field). field_of (types_in c.args.table.now) x) c.in_ok-field.field) (parts_in (types_in c.args.table.now) c.take_field.new.values.items) (fields_off c.args.count (parts_in (types_in c.args.table.now) c.args.values.now.items)) c.loop-test.true c.in_ok-field.ensures.is c.loop.invariant.is;
      below = subst (λ (l : List Field). All (λ (x : Field). x.of.0 < count c.args.table.now) l) (sym items) (All-push (λ (x : Field). x.of.0 < count c.args.table.now) c.loop.fields.items c.in_ok-field.field c.loop.invariant.below c.in_ok-field.ensures.below);
      stand = c.in_ok-field.ensures.stand;
    }

pub returns-clause-is : goal.returns-clause-is
returns-clause-is c =
    is_done NoField and_field field_off (map (λ (x : Field). field_of (types_in c.args.table.now) x) c.loop.fields.items) c.args.count c.loop.counter (parts_in (types_in c.args.table.now) c.loop.values.items) (fields_off c.args.count (parts_in (types_in c.args.table.now) c.args.values.now.items)) c.loop-test.false c.loop.invariant.is
    ∙ ap (λ (z : GoFields). Some (z, parts_in (types_in c.args.table.now) c.loop.values.items)) (fields_fronted (types_in c.args.table.now) c.loop.fields.items)
