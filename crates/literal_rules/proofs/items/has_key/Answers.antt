use Rattle.literal_rules.specs.Items.{is_keyed}
use Rattle.rule_words.proofs.AgainLemmas.{any_on}
use Rattle.literal_rules.proofs.items.has_key.Goals as goal

pub loop-i-preserved : goal.loop-i-preserved
loop-i-preserved c = any_on (is_keyed c.args.nodes.now c.args.v.now) c.loop-i.i c.loop-i.found _ _ c.loop-i.invariant c.is_keyed.ensures c.either-found.ensures
