use Rattle.type_model.proofs.KeyLaws.{puts_key}
use Rattle.rule_words.proofs.met.keep.Goals as goal

pub returns : goal.returns
returns c = puts_key c.args.met.now c.insert.new.self c.args.key 0 c.in_ok-insert.ensures.updates
