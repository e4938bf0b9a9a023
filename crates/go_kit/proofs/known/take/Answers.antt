use Rattle.go_kit.proofs.KnownLemmas.{left}
use Rattle.go_kit.proofs.known.take.Goals as goal

pub returns-clause-rest : goal.returns-clause-rest
returns-clause-rest c = left c.args.known.now c.remove.new.self c.args.path.now c.remove.ensures.updates
