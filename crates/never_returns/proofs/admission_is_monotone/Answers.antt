use Rattle.never_returns.proofs.AdmitsLemmas.{monotone}
use Rattle.never_returns.proofs.admission_is_monotone.Goals as goal

pub returns : goal.returns
returns c listed bodies = monotone listed bodies
