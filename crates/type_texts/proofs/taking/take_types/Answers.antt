use Rattle.std.proofs.Common.{◌≡◌, ◌++◌, ◌∷◌, ◌-◌, ◌+◌, ◌<◌, [], List, Some, map, ap, sym, subst, ◌∙◌}
use Rattle.std.specs.Prelude.{All}
use Rattle.std.proofs.lemmas.Result.{err_from_is_err_and}
use Rattle.std.proofs.lemmas.List.Elements.{All-push}
use Rattle.type_model.specs.declared.term.TypeId.{TypeId}
use Rattle.type_model.specs.GoTypes.{GoTypes, NoType, AndType, type_at}
use Rattle.type_model.specs.Tables.{types_in, count}
use Rattle.type_texts.specs.Building.{type_off, types_off, each_off}
use Rattle.type_texts.specs.Values.{parts_in}
use Rattle.type_texts.proofs.ValueLaws.{with_front, map_push, goes_on, fails, is_done, types_fronted}
use Rattle.type_texts.proofs.taking.take_types.Goals as goal

pub returns-in_err-id-clause-is : goal.returns-in_err-id-clause-is
returns-in_err-id-clause-is c =
    let p = err_from_is_err_and c.from_residual.result c.from_residual.ensures.1 in
    rw (p.1, p.2) (fails NoType AndType type_off c.in_err-id.field-0.0 (map (λ (x : TypeId). type_at (types_in c.args.table.now) x) c.loop.ids.items) c.args.count c.loop.counter (parts_in (types_in c.args.table.now) c.loop.values.items) (types_off c.args.count (parts_in (types_in c.args.table.now) c.args.values.now.items)) c.loop-test.true c.in_err-id.ensures.is c.loop.invariant.is)

pub loop-preserved : goal.loop-preserved
loop-preserved c =
    let items : c.push.new.self.items ≡ c.loop.ids.items ++ c.in_ok-id.id ∷ [] = c.in_ok-push.ensures.items in
    record {
      is =
          ap (λ l. with_front AndType l (each_off NoType AndType type_off (c.args.count - (c.loop.counter + 1)) (parts_in (types_in c.args.table.now) c.take_type.new.values.items))) (ap (map (λ (x : TypeId). type_at (types_in c.args.table.now) x)) items ∙ map_push (λ (x : TypeId). type_at (types_in c.args.table.now) x) c.loop.ids.items c.in_ok-id.id)
          ∙ goes_on NoType AndType type_off (map (λ (x : TypeId). type_at (types_in c.args.table.now) x) c.loop.ids.items) c.args.count c.loop.counter (parts_in (types_in c.args.table.now) c.loop.values.items) ((λ (x : TypeId). type_at (types_in c.args.table.now) x) c.in_ok-id.id) (parts_in (types_in c.args.table.now) c.take_type.new.values.items) (types_off c.args.count (parts_in (types_in c.args.table.now) c.args.values.now.items)) c.loop-test.true c.in_ok-id.ensures.is c.loop.invariant.is;
      below = subst (λ (l : List TypeId). All (λ (x : TypeId). x.0 < count c.args.table.now) l) (sym items) (All-push (λ (x : TypeId). x.0 < count c.args.table.now) c.loop.ids.items c.in_ok-id.id c.loop.invariant.below c.in_ok-id.ensures.below);
      stand = c.in_ok-id.ensures.stand;
    }

pub returns-clause-is : goal.returns-clause-is
returns-clause-is c =
    is_done NoType AndType type_off (map (λ (x : TypeId). type_at (types_in c.args.table.now) x) c.loop.ids.items) c.args.count c.loop.counter (parts_in (types_in c.args.table.now) c.loop.values.items) (types_off c.args.count (parts_in (types_in c.args.table.now) c.args.values.now.items)) c.loop-test.false c.loop.invariant.is
    ∙ ap (λ (z : GoTypes). Some (z, parts_in (types_in c.args.table.now) c.loop.values.items)) (types_fronted (types_in c.args.table.now) c.loop.ids.items)
