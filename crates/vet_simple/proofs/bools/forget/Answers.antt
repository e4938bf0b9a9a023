use Rattle.vet_simple.proofs.RunLemmas.{kept_none}
use Rattle.vet_simple.proofs.bools.forget.Goals as goal

pub returns : goal.returns
returns c = kept_none c.new.result c.new.ensures.empty
