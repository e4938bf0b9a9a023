use Rattle.least.proofs.Gluing.{one_least}
use Rattle.least.proofs.staged.one_set_of_a_tree.Goals as goal

pub returns : goal.returns
returns g c M N a b = one_least g.T.Staged.admits M N a b
