use Rattle.words.proofs.GrammarLaws.{one-reading}
use Rattle.words.proofs.laws.one_reading.Goals as goal

pub returns : goal.returns
returns c = one-reading
