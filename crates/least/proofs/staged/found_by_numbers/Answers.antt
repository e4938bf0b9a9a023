use Rattle.least.specs.Tables.{home}
use Rattle.least.proofs.Numbers.{by_numbers}
use Rattle.least.proofs.staged.found_by_numbers.Goals as goal

pub returns : goal.returns
returns g c p given count number name marks n l = by_numbers home g.T.Staged.admits p given count number name marks g.T.Staged.monotone n l
