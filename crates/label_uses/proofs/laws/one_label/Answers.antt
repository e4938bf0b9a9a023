use Rattle.label_uses.proofs.ReadLemmas.{one_denoted}
use Rattle.label_uses.proofs.laws.one_label.Goals as goal

pub returns : goal.returns
returns c bytes tree jump a b = one_denoted bytes tree jump a b
