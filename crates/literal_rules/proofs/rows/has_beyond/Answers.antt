use Rattle.literal_rules.specs.Rows.{is_beyond}
use Rattle.rule_words.proofs.AgainLemmas.{any_on}
use Rattle.literal_rules.proofs.rows.has_beyond.Goals as goal

pub loop-i-preserved : goal.loop-i-preserved
loop-i-preserved c = any_on (is_beyond c.args.limit c.args.places.now) c.loop-i.i c.loop-i.found _ _ c.loop-i.invariant c.is_beyond.ensures c.either-found.ensures
