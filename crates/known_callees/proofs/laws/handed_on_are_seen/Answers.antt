use Rattle.known_callees.proofs.WrapLemmas.{forwards_seen}
use Rattle.known_callees.proofs.laws.handed_on_are_seen.Goals as goal

pub returns : goal.returns
returns c u marks = forwards_seen u marks
