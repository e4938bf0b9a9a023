use Rattle.tree_report.proofs.HeardLemmas.{heard_none}
use Rattle.tree_report.proofs.heard.nothing_heard.Goals as goal

pub returns : goal.returns
returns c = heard_none c.new.result.items c.new-2.result.items c.new-3.result.items c.new.ensures.items c.new-2.ensures.items c.new-3.ensures.items
