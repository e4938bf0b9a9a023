use Rattle.std.proofs.Common.{◌≡◌, ◌++◌, ◌∷◌, ◌-◌, ◌+◌, [], List, map, ap, sym, subst, ◌∙◌}
use Rattle.std.proofs.lemmas.Result.{err_from_is_err_and}
use Rattle.gv_bytes.specs.Reading.{each_at}
use Rattle.gv_bytes.proofs.Loops.{with_front, goes_on, fails, is_done}
use Rattle.package_faces.specs.declared.interface.Exported.{Exported}
use Rattle.package_faces.specs.Interfaces.{object_in, AreObjectsIn}
use Rattle.export_text.proofs.InterfaceLaws.{objects_stay, objects_grow, objects_push}
use Rattle.type_model.specs.Tables.{terms_in, types_in, count}
use Rattle.export_text.specs.Faces.{object_at}
use Rattle.type_texts.proofs.ValueLaws.{map_push}
use Rattle.type_texts.proofs.GrowLaws.{grown_then}
use Rattle.export_text.proofs.interface_reading.read_objects.Goals as goal

pub returns-in_err-object-clause-is : goal.returns-in_err-object-clause-is
returns-in_err-object-clause-is c =
    let p = err_from_is_err_and c.from_residual.result c.from_residual.ensures.1 in
    rw (p.1, p.2) (fails object_at c.in_err-object.field-0.0 (map (λ o. object_in (types_in c.loop.table) o) c.loop.objects.items) c.args.count c.loop.counter c.loop.rest.now (each_at object_at c.args.count c.args.bytes.now) c.loop-test.true c.in_err-object.ensures.is c.loop.invariant.is)

pub loop-preserved : goal.loop-preserved
loop-preserved c =
    let items : c.push.new.self.items ≡ c.loop.objects.items ++ c.in_ok-object.object ∷ [] = c.in_ok-push.ensures.items in
    let stay = objects_stay (terms_in c.loop.table) (terms_in c.read_object.new.table) c.in_ok-object.ensures.grown.extends c.args.path.now c.loop.objects.items c.loop.invariant.own in
    record {
      grown = grown_then c.args.table.now c.loop.table c.read_object.new.table c.loop.invariant.grown c.in_ok-object.ensures.grown;
      table = c.in_ok-object.ensures.table;
      is =
          ap (λ l. with_front l (each_at object_at (c.args.count - (c.loop.counter + 1)) c.in_ok-object.after.now)) (ap (map (λ o. object_in (types_in c.read_object.new.table) o)) items ∙ map_push (λ o. object_in (types_in c.read_object.new.table) o) c.loop.objects.items c.in_ok-object.object ∙ ap (λ l. l ++ object_in (types_in c.read_object.new.table) c.in_ok-object.object ∷ []) stay)
          ∙ goes_on object_at (map (λ o. object_in (types_in c.loop.table) o) c.loop.objects.items) c.args.count c.loop.counter c.loop.rest.now (object_in (types_in c.read_object.new.table) c.in_ok-object.object) c.in_ok-object.after.now (each_at object_at c.args.count c.args.bytes.now) c.loop-test.true c.in_ok-object.ensures.is c.loop.invariant.is;
      own = subst (λ (l : List Exported). AreObjectsIn c.args.path.now (count c.read_object.new.table) (types_in c.read_object.new.table) l) (sym items) (objects_push c.args.path.now (count c.read_object.new.table) (types_in c.read_object.new.table) c.loop.objects.items c.in_ok-object.object (objects_grow (terms_in c.loop.table) (terms_in c.read_object.new.table) c.in_ok-object.ensures.grown.extends c.args.path.now c.loop.objects.items c.loop.invariant.own) c.in_ok-object.ensures.own);
    }

pub returns-clause-is : goal.returns-clause-is
returns-clause-is c = is_done object_at (map (λ o. object_in (types_in c.loop.table) o) c.loop.objects.items) c.args.count c.loop.counter c.loop.rest.now (each_at object_at c.args.count c.args.bytes.now) c.loop-test.false c.loop.invariant.is

pub returns-in_err-object-clause-grown : goal.returns-in_err-object-clause-grown
returns-in_err-object-clause-grown c = grown_then c.args.table.now c.loop.table c.read_object.new.table c.loop.invariant.grown c.in_err-object.ensures.grown

pub returns-in_err-push-clause-grown : goal.returns-in_err-push-clause-grown
returns-in_err-push-clause-grown c = grown_then c.args.table.now c.loop.table c.read_object.new.table c.loop.invariant.grown c.in_ok-object.ensures.grown
