use Rattle.type_model.proofs.KeyLaws.{puts_key}
use Rattle.vet_simple.proofs.tag_met.put.Goals as goal

pub returns : goal.returns
returns c = puts_key c.args.met.now c.insert.new.self c.args.key c.args.i c.in_ok-insert.ensures.updates
