use Rattle.std.proofs.Common.{◌-◌, arith}
use Rattle.std.specs.Prelude.{length}
use Rattle.type_texts.proofs.PendingLaws.{types_step}
use Rattle.type_texts.proofs.type_rows.push_types.Goals as goal

pub loop-k-preserved : goal.loop-k-preserved
loop-k-preserved c = record {
  pending = types_step c.args.ids.now c.loop-k.k _ c.args.todo.now.items c.loop-k.todo.items c.push_todo.new.todo.items c.loop-k-test.true c.loop-k.invariant.pending c.in_ok-push_todo.ensures.pending;
  within = λ n below h. c.in_ok-push_todo.ensures.within n (below (length c.args.ids.now - 1 - c.loop-k.k) _ (omega (arith, c.loop-k-test.true))) (c.loop-k.invariant.within n below h);
  pieces = omega (arith, c.in_ok-push_todo.ensures.pieces, c.loop-k.invariant.pieces);
}
