use Rattle.std.proofs.Common.{◌≡◌, ◌++◌, ◌∷◌, ◌-◌, ◌+◌, [], List, map, ap, sym, subst, ◌∙◌}
use Rattle.std.proofs.lemmas.Result.{err_from_is_err_and}
use Rattle.std.proofs.lemmas.List.Elements.{All-push}
use Rattle.gv_bytes.specs.Reading.{each_at}
use Rattle.gv_bytes.proofs.Loops.{with_front, goes_on, fails, is_done}
use Rattle.type_model.specs.declared.term.Method.{Method}
use Rattle.type_model.specs.GoTypes.{MethodsBelow, SignatureBelow}
use Rattle.type_model.specs.Parts.{method_of}
use Rattle.package_faces.proofs.FaceLaws.{methods_stay, methods_grow}
use Rattle.type_model.specs.Tables.{terms_in, types_in, count}
use Rattle.export_text.specs.Faces.{method_at}
use Rattle.type_texts.proofs.ValueLaws.{map_push}
use Rattle.type_texts.proofs.GrowLaws.{grown_then}
use Rattle.export_text.proofs.method_reading.read_methods.Goals as goal

pub returns-in_err-method-clause-is : goal.returns-in_err-method-clause-is
returns-in_err-method-clause-is c =
    let p = err_from_is_err_and c.from_residual.result c.from_residual.ensures.1 in
    rw (p.1, p.2) (fails method_at c.in_err-method.field-0.0 (map (λ m. method_of (types_in c.loop.table) m) c.loop.methods.items) c.args.count c.loop.counter c.loop.rest.now (each_at method_at c.args.count c.args.bytes.now) c.loop-test.true c.in_err-method.ensures.is c.loop.invariant.is)

pub loop-preserved : goal.loop-preserved
loop-preserved c =
    let items : c.push.new.self.items ≡ c.loop.methods.items ++ c.in_ok-method.method ∷ [] = c.in_ok-push.ensures.items in
    let stay = methods_stay (terms_in c.loop.table) (terms_in c.read_method.new.table) c.in_ok-method.ensures.grown.extends c.loop.methods.items c.loop.invariant.below in
    record {
      grown = grown_then c.args.table.now c.loop.table c.read_method.new.table c.loop.invariant.grown c.in_ok-method.ensures.grown;
      table = c.in_ok-method.ensures.table;
      is =
          ap (λ l. with_front l (each_at method_at (c.args.count - (c.loop.counter + 1)) c.in_ok-method.after.now)) (ap (map (λ m. method_of (types_in c.read_method.new.table) m)) items ∙ map_push (λ m. method_of (types_in c.read_method.new.table) m) c.loop.methods.items c.in_ok-method.method ∙ ap (λ l. l ++ method_of (types_in c.read_method.new.table) c.in_ok-method.method ∷ []) stay)
          ∙ goes_on method_at (map (λ m. method_of (types_in c.loop.table) m) c.loop.methods.items) c.args.count c.loop.counter c.loop.rest.now (method_of (types_in c.read_method.new.table) c.in_ok-method.method) c.in_ok-method.after.now (each_at method_at c.args.count c.args.bytes.now) c.loop-test.true c.in_ok-method.ensures.is c.loop.invariant.is;
      below = subst (λ (l : List Method). MethodsBelow (count c.read_method.new.table) l) (sym items) (All-push (λ (x : Method). SignatureBelow (count c.read_method.new.table) x.of) c.loop.methods.items c.in_ok-method.method (methods_grow (terms_in c.loop.table) (terms_in c.read_method.new.table) c.in_ok-method.ensures.grown.extends c.loop.methods.items c.loop.invariant.below) c.in_ok-method.ensures.below);
    }

pub returns-clause-is : goal.returns-clause-is
returns-clause-is c = is_done method_at (map (λ m. method_of (types_in c.loop.table) m) c.loop.methods.items) c.args.count c.loop.counter c.loop.rest.now (each_at method_at c.args.count c.args.bytes.now) c.loop-test.false c.loop.invariant.is

pub returns-in_err-method-clause-grown : goal.returns-in_err-method-clause-grown
returns-in_err-method-clause-grown c = grown_then c.args.table.now c.loop.table c.read_method.new.table c.loop.invariant.grown c.in_err-method.ensures.grown

pub returns-in_err-push-clause-grown : goal.returns-in_err-push-clause-grown
returns-in_err-push-clause-grown c = grown_then c.args.table.now c.loop.table c.read_method.new.table c.loop.invariant.grown c.in_ok-method.ensures.grown
