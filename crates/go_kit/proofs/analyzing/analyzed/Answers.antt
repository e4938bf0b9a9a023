use Rattle.go_kit.proofs.RunLemmas.{run-outcomes}
use Rattle.go_kit.proofs.analyzing.analyzed.Goals as goal

pub returns-clause-right : goal.returns-clause-right
returns-clause-right c = run-outcomes c.args.loaded.now c.args.load.now c.requires.of c.args.asked.now c.in_ok-outcomes.outcomes.items c.in_ok-outcomes.ensures.each
