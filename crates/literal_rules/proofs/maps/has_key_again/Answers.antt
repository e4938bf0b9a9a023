use Rattle.std.proofs.Common.{length, ◌∙◌}
use Rattle.literal_rules.proofs.KeyLemmas.{keys_again}
use Rattle.literal_rules.proofs.maps.has_key_again.Goals as goal

pub returns : goal.returns
returns c = c.in_ok-again.ensures ∙ keys_again c.args.s.now c.requires.table c.args.keys.now c.requires.keys (length c.args.keys.now)
