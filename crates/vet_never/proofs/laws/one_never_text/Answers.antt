use Rattle.vet_never.proofs.OneLemmas.{one_text}
use Rattle.vet_never.proofs.laws.one_never_text.Goals as goal

pub returns : goal.returns
returns c u marks given a b one other = one_text u marks given a b one other
