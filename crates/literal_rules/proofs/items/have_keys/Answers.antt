use Rattle.literal_rules.specs.Items.{is_keyed}
use Rattle.literal_rules.proofs.AgainLemmas.{all_on}
use Rattle.literal_rules.proofs.items.have_keys.Goals as goal

pub loop-i-preserved : goal.loop-i-preserved
loop-i-preserved c = all_on (is_keyed c.args.nodes.now c.args.v.now) c.loop-i.i c.loop-i.all _ _ c.loop-i.invariant c.is_keyed.ensures c.both-all.ensures
