use Rattle.std.proofs.Common.{◌-◌, ◌<◌, ◌∙◌, arith, ap, subst, sym}
use Rattle.std.specs.Prelude.{length}
use Rattle.type_model.specs.declared.term.Field.{Field}
use Rattle.type_texts.specs.Pending.{field_row, pending}
use Rattle.type_texts.proofs.PendingLaws.{fields_step}
use Rattle.type_texts.proofs.type_rows.push_fields.Goals as goal

pub loop-k-preserved : goal.loop-k-preserved
loop-k-preserved c = record {
  pending = fields_step c.args.fields.now c.loop-k.k c.index-fields-fields.result c.args.todo.now.items c.loop-k.todo.items c.push_field.new.todo.items c.loop-k-test.true c.loop-k.invariant.pending
      (λ types rest. c.in_ok-push_field.ensures.pending types rest ∙ ap (λ (f : Field). field_row types f (pending types c.loop-k.todo.items rest)) c.index-fields-fields.is);
  within = λ n below h. c.in_ok-push_field.ensures.within n
      (subst (λ (f : Field). f.of.0 < n) (sym c.index-fields-fields.is) (below (length c.args.fields.now - 1 - c.loop-k.k) c.index-fields-fields.result (omega (arith, c.loop-k-test.true))))
      (c.loop-k.invariant.within n below h);
  pieces = omega (arith, c.in_ok-push_field.ensures.pieces, c.loop-k.invariant.pieces);
}
