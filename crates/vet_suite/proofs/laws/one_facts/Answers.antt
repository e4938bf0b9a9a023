use Rattle.vet_suite.proofs.OneLemmas.{one_facts}
use Rattle.vet_suite.proofs.laws.one_facts.Goals as goal

pub returns : goal.returns
returns c number u marks given a b one other = one_facts u marks number given a b one other
