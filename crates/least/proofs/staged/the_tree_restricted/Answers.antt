use Rattle.least.specs.Tables.{home}
use Rattle.std.proofs.Common.{◌≡◌, ◌↔◌, true, subst}
use Rattle.least.proofs.Gluing.{glued, one_least}
use Rattle.least.proofs.staged.the_tree_restricted.Goals as goal

pub returns : goal.returns
returns g c given found whole s least p f at =
    let all = glued home g.T.Staged.env g.T.Staged.admits g.T.Staged.rank given found g.T.Staged.local g.T.Staged.ordered s in
    subst (λ q. (whole f ≡ true) ↔ (found q f ≡ true)) at (one_least g.T.Staged.admits whole (λ m. found (home m) m) least all f)
