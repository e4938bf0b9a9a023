use Rattle.literal_rules.specs.Maps.{is_keyed}
use Rattle.literal_rules.specs.InCode.{keys_in}
use Rattle.literal_rules.proofs.AgainLemmas.{all_on}
use Rattle.literal_rules.proofs.maps.are_keyed.Goals as goal

pub loop-i-preserved : goal.loop-i-preserved
loop-i-preserved c = all_on (is_keyed (keys_in c.args.s.now c.args.keys.now)) c.loop-i.i c.loop-i.all _ _ c.loop-i.invariant c.is_keyed.ensures c.both-all.ensures
