use Rattle.type_answers.proofs.PendingLemmas.{in_step}
use Rattle.type_answers.proofs.relations.comparable_at.Goals as goal

pub is_comparable-requires-clause-step : goal.is_comparable-requires-clause-step
is_comparable-requires-clause-step c = in_step c.args.u.now c.args.s.now c.requires.scene
