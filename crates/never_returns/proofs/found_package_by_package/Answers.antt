use Rattle.least.specs.Tables.{home}
use Rattle.least.proofs.Gluing.{glued}
use Rattle.never_returns.specs.Admits.{Admits, Has}
use Rattle.never_returns.proofs.AdmitsLemmas.{local}
use Rattle.never_returns.proofs.found_package_by_package.Goals as goal

pub returns : goal.returns
returns c env rank listed bodies given found see order staged =
    glued home (Has env) (Admits listed bodies) rank given found (local (Has env) listed bodies see) order staged
