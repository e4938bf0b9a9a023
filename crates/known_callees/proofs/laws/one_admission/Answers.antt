use Rattle.vet_never.proofs.OneLemmas.{admits_moved}
use Rattle.known_callees.proofs.laws.one_admission.Goals as goal

pub returns : goal.returns
returns c u marks a b one two N m admits = admits_moved u marks a b one two N m admits
