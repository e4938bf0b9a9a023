use Rattle.std.proofs.Common.{◌≡◌, ◌++◌, ◌∷◌, ◌-◌, ◌+◌, [], List, map, ap, sym, subst, ◌∙◌}
use Rattle.std.proofs.lemmas.Result.{err_from_is_err_and}
use Rattle.gv_bytes.specs.Reading.{each_at}
use Rattle.gv_bytes.proofs.Loops.{with_front, goes_on, fails, is_done}
use Rattle.package_faces.specs.declared.interface.ExportedType.{ExportedType}
use Rattle.package_faces.specs.Interfaces.{defined_in, AreDefinedIn}
use Rattle.export_text.proofs.InterfaceLaws.{defineds_stay, defineds_grow, defineds_push}
use Rattle.type_model.specs.Tables.{terms_in, types_in, count}
use Rattle.export_text.specs.Faces.{defined_at}
use Rattle.type_texts.proofs.ValueLaws.{map_push}
use Rattle.type_texts.proofs.GrowLaws.{grown_then}
use Rattle.export_text.proofs.interface_reading.read_defineds.Goals as goal

pub returns-in_err-defined-clause-is : goal.returns-in_err-defined-clause-is
returns-in_err-defined-clause-is c =
    let p = err_from_is_err_and c.from_residual.result c.from_residual.ensures.1 in
    rw (p.1, p.2) (fails defined_at c.in_err-defined.field-0.0 (map (λ d. defined_in (types_in c.loop.table) d) c.loop.types.items) c.args.count c.loop.counter c.loop.rest.now (each_at defined_at c.args.count c.args.bytes.now) c.loop-test.true c.in_err-defined.ensures.is c.loop.invariant.is)

pub loop-preserved : goal.loop-preserved
loop-preserved c =
    let items : c.push.new.self.items ≡ c.loop.types.items ++ c.in_ok-defined.defined ∷ [] = c.in_ok-push.ensures.items in
    let stay = defineds_stay (terms_in c.loop.table) (terms_in c.read_defined.new.table) c.in_ok-defined.ensures.grown.extends c.loop.types.items c.loop.invariant.below in
    record {
      grown = grown_then c.args.table.now c.loop.table c.read_defined.new.table c.loop.invariant.grown c.in_ok-defined.ensures.grown;
      table = c.in_ok-defined.ensures.table;
      is =
          ap (λ l. with_front l (each_at defined_at (c.args.count - (c.loop.counter + 1)) c.in_ok-defined.after.now)) (ap (map (λ d. defined_in (types_in c.read_defined.new.table) d)) items ∙ map_push (λ d. defined_in (types_in c.read_defined.new.table) d) c.loop.types.items c.in_ok-defined.defined ∙ ap (λ l. l ++ defined_in (types_in c.read_defined.new.table) c.in_ok-defined.defined ∷ []) stay)
          ∙ goes_on defined_at (map (λ d. defined_in (types_in c.loop.table) d) c.loop.types.items) c.args.count c.loop.counter c.loop.rest.now (defined_in (types_in c.read_defined.new.table) c.in_ok-defined.defined) c.in_ok-defined.after.now (each_at defined_at c.args.count c.args.bytes.now) c.loop-test.true c.in_ok-defined.ensures.is c.loop.invariant.is;
      below = subst (λ (l : List ExportedType). AreDefinedIn (count c.read_defined.new.table) l) (sym items) (defineds_push (count c.read_defined.new.table) c.loop.types.items c.in_ok-defined.defined (defineds_grow (terms_in c.loop.table) (terms_in c.read_defined.new.table) c.in_ok-defined.ensures.grown.extends c.loop.types.items c.loop.invariant.below) c.in_ok-defined.ensures.below);
    }

pub returns-clause-is : goal.returns-clause-is
returns-clause-is c = is_done defined_at (map (λ d. defined_in (types_in c.loop.table) d) c.loop.types.items) c.args.count c.loop.counter c.loop.rest.now (each_at defined_at c.args.count c.args.bytes.now) c.loop-test.false c.loop.invariant.is

pub returns-in_err-defined-clause-grown : goal.returns-in_err-defined-clause-grown
returns-in_err-defined-clause-grown c = grown_then c.args.table.now c.loop.table c.read_defined.new.table c.loop.invariant.grown c.in_err-defined.ensures.grown

pub returns-in_err-push-clause-grown : goal.returns-in_err-push-clause-grown
returns-in_err-push-clause-grown c = grown_then c.args.table.now c.loop.table c.read_defined.new.table c.loop.invariant.grown c.in_ok-defined.ensures.grown
