use Rattle.wave_run.proofs.Placing.{same_answers}
use Rattle.wave_run.proofs.laws.one_list_of_answers.Goals as goal

pub returns : goal.returns
returns g t step jobs b c d e one p q = same_answers (g.S.Step.right step) one jobs b c d e p q
