use Rattle.std.proofs.Common.{ap, sym, ◌∙◌}
use Rattle.literal_rules.specs.Items.{is_bad_key}
use Rattle.literal_rules.specs.InCode.{keys_in}
use Rattle.rule_words.proofs.AgainLemmas.{any_on}
use Rattle.literal_rules.proofs.items.has_bad.Goals as goal

pub loop-i-preserved : goal.loop-i-preserved
loop-i-preserved c = any_on (is_bad_key (keys_in c.args.s.now c.args.keys.now)) c.loop-i.i c.loop-i.found _ _ c.loop-i.invariant c.is_bad_key.ensures c.either-found.ensures
