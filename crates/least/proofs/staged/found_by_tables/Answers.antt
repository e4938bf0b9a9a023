use Rattle.least.specs.Tables.{home}
use Rattle.least.proofs.Gluing.{glued}
use Rattle.least.proofs.TableLaws.{staged_by_tables}
use Rattle.least.proofs.staged.found_by_tables.Goals as goal

pub returns : goal.returns
returns g c tables given found a =
    glued home g.T.Staged.env g.T.Staged.admits g.T.Staged.rank given found g.T.Staged.local g.T.Staged.ordered
    (staged_by_tables g.T.Staged.env g.T.Staged.admits g.T.Staged.rank tables given found g.T.Staged.ordered a)
