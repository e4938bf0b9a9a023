use Rattle.type_model.proofs.KeyLaws.{puts_key}
use Rattle.vet_simple.proofs.met.put.Goals as goal

pub returns : goal.returns
returns c = puts_key c.args.met.now c.insert.new.self c.args.key c.args.x c.in_ok-insert.ensures.updates
