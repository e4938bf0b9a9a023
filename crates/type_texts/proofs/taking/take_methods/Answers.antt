use Rattle.std.proofs.Common.{◌≡◌, ◌++◌, ◌∷◌, ◌-◌, ◌+◌, ◌<◌, [], List, Some, map, ap, sym, subst, ◌∙◌}
use Rattle.std.specs.Prelude.{All}
use Rattle.std.proofs.lemmas.Result.{err_from_is_err_and}
use Rattle.std.proofs.lemmas.List.Elements.{All-push}
use Rattle.type_model.specs.declared.term.Method.{Method}
use Rattle.type_model.specs.GoTypes.{GoMethods, NoMethod, SignatureBelow}
use Rattle.type_model.specs.Parts.{method_of}
use Rattle.type_model.specs.Tables.{types_in, count}
use Rattle.type_texts.specs.Building.{and_method, method_off, methods_off, each_off}
use Rattle.type_texts.specs.Values.{parts_in}
use Rattle.type_texts.proofs.ValueLaws.{with_front, map_push, goes_on, fails, is_done, methods_fronted}
use Rattle.type_texts.proofs.taking.take_methods.Goals as goal

pub returns-in_err-method-clause-is : goal.returns-in_err-method-clause-is
returns-in_err-method-clause-is c =
    let p = err_from_is_err_and c.from_residual.result c.from_residual.ensures.1 in
    rw (p.1, p.2) (fails NoMethod and_method method_off c.in_err-method.field-0.0 (map (λ (x : Method). method_of (types_in c.args.table.now) x) c.loop.methods.items) c.args.count c.loop.counter (parts_in (types_in c.args.table.now) c.loop.values.items) (methods_off c.args.count (parts_in (types_in c.args.table.now) c.args.values.now.items)) c.loop-test.true c.in_err-method.ensures.is c.loop.invariant.is)

pub loop-preserved : goal.loop-preserved
loop-preserved c =
    let items : c.push.new.self.items ≡ c.loop.methods.items ++ c.in_ok-method.method ∷ [] = c.in_ok-push.ensures.items in
    record {
      is =
          ap (λ l. with_front and_method l (each_off NoMethod and_method method_off (c.args.count - (c.loop.counter + 1)) (parts_in (types_in c.args.table.now) c.take_method.new.values.items))) (ap (map (λ (x : Method). method_of (types_in c.args.table.now) x)) items ∙ map_push (λ (x : Method). method_of (types_in c.args.table.now) x) c.loop.methods.items c.in_ok-method.method)
          ∙ goes_on NoMethod and_method method_off (map (λ (x : Method). method_of (types_in c.args.table.now) x) c.loop.methods.items) c.args.count c.loop.counter (parts_in (types_in c.args.table.now) c.loop.values.items) ((λ (x : Method). method_of (types_in c.args.table.now) x) c.in_ok-method.method) (parts_in (types_in c.args.table.now) c.take_method.new.values.items) (methods_off c.args.count (parts_in (types_in c.args.table.now) c.args.values.now.items)) c.loop-test.true c.in_ok-method.ensures.is c.loop.invariant.is;
      below = subst (λ (l : List Method). All (λ (x : Method). SignatureBelow (count c.args.table.now) x.of) l) (sym items) (All-push (λ (x : Method). SignatureBelow (count c.args.table.now) x.of) c.loop.methods.items c.in_ok-method.method c.loop.invariant.below c.in_ok-method.ensures.below);
      stand = c.in_ok-method.ensures.stand;
    }

pub returns-clause-is : goal.returns-clause-is
returns-clause-is c =
    is_done NoMethod and_method method_off (map (λ (x : Method). method_of (types_in c.args.table.now) x) c.loop.methods.items) c.args.count c.loop.counter (parts_in (types_in c.args.table.now) c.loop.values.items) (methods_off c.args.count (parts_in (types_in c.args.table.now) c.args.values.now.items)) c.loop-test.false c.loop.invariant.is
    ∙ ap (λ (z : GoMethods). Some (z, parts_in (types_in c.args.table.now) c.loop.values.items)) (methods_fronted (types_in c.args.table.now) c.loop.methods.items)
