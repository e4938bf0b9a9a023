use Rattle.go_tree.proofs.Literals.{text_turn, text_end}
use Rattle.go_tree.proofs.quoted.escaped_value.Goals as goal

pub loop-b-preserved : goal.loop-b-preserved
loop-b-preserved c = text_turn _ _ _ _ _ c.loop-b-test.true c.loop-b.invariant _ c.in_ok-push_added.ensures _ c.escape_step-state.ensures

pub returns : goal.returns
returns c = text_end _ _ _ _ _ c.loop-b-test.false c.loop-b.invariant
