use Rattle.go_tree.proofs.Literals.{stays_wide}
use Rattle.go_tree.proofs.value.digits_number.Goals as goal

pub returns-in-None : goal.returns-in-None
returns-in-None c = stays_wide _ _ _ _ _ _ c.requires c.loop-b-test.true c.loop-b.invariant c.in-None.ensures
