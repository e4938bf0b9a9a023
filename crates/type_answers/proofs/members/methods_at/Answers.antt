use Rattle.type_answers.proofs.PendingLemmas.{in_step}
use Rattle.type_answers.proofs.members.methods_at.Goals as goal

pub method_set_of-requires-clause-step : goal.method_set_of-requires-clause-step
method_set_of-requires-clause-step c = in_step c.args.u.now c.args.s.now c.requires.scene
