use Rattle.flow.proofs.SeenLemmas.{nothing_seen}
use Rattle.flow.proofs.seen.none_seen.Goals as goal

pub returns : goal.returns
returns c = λ q. nothing_seen (record { start = c.args.start; before = c.new.result; behind = c.new-2.result }) q c.new.ensures.items c.new-2.ensures.items
