use Rattle.vet_printf.proofs.OneLemmas.{one_found}
use Rattle.vet_printf.proofs.laws.one_list_found.Goals as goal

pub returns : goal.returns
returns c u marks given a b one other = one_found u marks given a b one other
