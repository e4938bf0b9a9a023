use Rattle.never_returns.specs.Admits.{Has}
use Rattle.never_returns.proofs.AdmitsLemmas.{local}
use Rattle.never_returns.proofs.admission_is_local.Goals as goal

pub returns : goal.returns
returns c env listed bodies see = local (Has env) listed bodies see
