use Rattle.std.proofs.Common.{sym, ◌∙◌}
use Rattle.wave_run.specs.Waves.{cost_in}
use Rattle.wave_run.proofs.Spending.{ones}
use Rattle.wave_run.proofs.Finishing.{is_sum}
use Rattle.wave_run.proofs.laws.each_job_counts_once.Goals as goal

pub returns : goal.returns
returns g t step jobs costs answers i one a = sym (is_sum (cost_in i) costs) ∙ ones (g.S.Step.right step) i one jobs costs answers a
