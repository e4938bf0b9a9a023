use Rattle.least.specs.Tables.{home}
use Rattle.least.proofs.Gluing.{glued}
use Rattle.least.proofs.TableLaws.{staged_by_tables}
use Rattle.never_returns.specs.Admits.{Admits, Has}
use Rattle.never_returns.proofs.AdmitsLemmas.{local}
use Rattle.never_returns.proofs.found_by_tables.Goals as goal

pub returns : goal.returns
returns c env rank listed bodies tables given found see order told =
    glued home (Has env) (Admits listed bodies) rank given found (local (Has env) listed bodies see) order
    (staged_by_tables (Has env) (Admits listed bodies) rank tables given found order told)
