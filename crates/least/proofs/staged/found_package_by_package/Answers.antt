use Rattle.least.specs.Tables.{home}
use Rattle.least.proofs.Gluing.{glued}
use Rattle.least.proofs.staged.found_package_by_package.Goals as goal

pub returns : goal.returns
returns g c given found s =
    glued home g.T.Staged.env g.T.Staged.admits g.T.Staged.rank given found g.T.Staged.local g.T.Staged.ordered s
