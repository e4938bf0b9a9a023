use Rattle.std.proofs.Common.{arith}
use Rattle.go_tree.proofs.Heads.{constraint_next}
use Rattle.go_tree.proofs.constraint.constraint_in.Goals as goal

pub loop-at-preserved : goal.loop-at-preserved
loop-at-preserved c =
    constraint_next _ c.args.front.now c.behind-rest.result.now c.loop-at.at c.loop-at.state c.comment_step-state.result c.is_found.result
    (omega (arith, c.loop-at-test.true)) c.behind-rest.ensures c.is_found.ensures c.if-is_found.false c.comment_step-state.ensures c.loop-at.invariant
