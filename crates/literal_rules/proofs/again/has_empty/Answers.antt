use Rattle.literal_rules.specs.Again.{is_empty_at}
use Rattle.rule_words.proofs.AgainLemmas.{any_on}
use Rattle.literal_rules.proofs.again.has_empty.Goals as goal

pub loop-i-preserved : goal.loop-i-preserved
loop-i-preserved c = any_on (is_empty_at c.args.places.now) c.loop-i.i c.loop-i.found _ _ c.loop-i.invariant c.is_empty.ensures c.either-found.ensures
