use Rattle.known_callees.proofs.CalleeLemmas.{named_seen}
use Rattle.known_callees.proofs.laws.named_are_seen.Goals as goal

pub returns : goal.returns
returns c u marks f n m is = named_seen u marks f n m is
