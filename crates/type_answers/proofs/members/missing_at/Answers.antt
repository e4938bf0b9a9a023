use Rattle.type_answers.proofs.PendingLemmas.{in_step}
use Rattle.type_answers.proofs.members.missing_at.Goals as goal

pub missing_method-requires-clause-step : goal.missing_method-requires-clause-step
missing_method-requires-clause-step c = in_step c.args.u.now c.args.s.now c.requires.scene
