use Rattle.least.specs.Tables.{home}
use Rattle.least.proofs.Gluing.{one_in}
use Rattle.least.proofs.staged.one_set_of_a_package.Goals as goal

pub returns : goal.returns
returns g c p given M N a b = one_in home g.T.Staged.admits p given M N a b
