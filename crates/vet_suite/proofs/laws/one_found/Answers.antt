use Rattle.vet_suite.proofs.OneLemmas.{one_by}
use Rattle.vet_suite.proofs.laws.one_found.Goals as goal

pub returns : goal.returns
returns c number u marks paths given xs ys one other = one_by u marks number paths given xs ys one other
