use Rattle.known_callees.proofs.CalleeLemmas.{callees_seen}
use Rattle.known_callees.proofs.laws.callees_are_seen.Goals as goal

pub returns : goal.returns
returns c u marks a is = callees_seen u marks a is
