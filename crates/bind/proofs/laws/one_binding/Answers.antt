use Rattle.bind.proofs.LawLemmas.{one_denoted}
use Rattle.bind.proofs.laws.one_binding.Goals as goal

pub returns : goal.returns
returns c p at o other a b = one_denoted p at o other a b
