use Rattle.vet_printf.proofs.OneLemmas.{one_text}
use Rattle.vet_printf.proofs.laws.one_wraps_text.Goals as goal

pub returns : goal.returns
returns c u marks given a b one other = one_text u marks given a b one other
