use Rattle.std.proofs.Common.{◌-◌, ◌<◌, ◌∙◌, arith, ap, subst, sym}
use Rattle.std.specs.Prelude.{length}
use Rattle.type_model.specs.declared.term.Method.{Method}
use Rattle.type_model.specs.GoTypes.{SignatureBelow}
use Rattle.type_texts.specs.Pending.{method_row, pending}
use Rattle.type_texts.proofs.PendingLaws.{methods_step}
use Rattle.type_texts.proofs.type_rows.push_methods.Goals as goal

pub loop-k-preserved : goal.loop-k-preserved
loop-k-preserved c = record {
  pending = methods_step c.args.methods.now c.loop-k.k c.index-methods-methods.result c.args.todo.now.items c.loop-k.todo.items c.push_method.new.todo.items c.loop-k-test.true c.loop-k.invariant.pending
      (λ types rest. c.in_ok-push_method.ensures.pending types rest ∙ ap (λ (f : Method). method_row types f (pending types c.loop-k.todo.items rest)) c.index-methods-methods.is);
  within = λ n below h. c.in_ok-push_method.ensures.within n
      (subst (λ (f : Method). SignatureBelow n f.of) (sym c.index-methods-methods.is) (below (length c.args.methods.now - 1 - c.loop-k.k) c.index-methods-methods.result (omega (arith, c.loop-k-test.true))))
      (c.loop-k.invariant.within n below h);
  pieces = omega (arith, c.in_ok-push_method.ensures.pieces, c.loop-k.invariant.pieces);
}
