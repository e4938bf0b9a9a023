use Rattle.tree_runs.specs.Cutting.{read_cut, read_whole}
use Rattle.tree_runs.proofs.CutLaws.{cuts-nothing-seen}
use Rattle.tree_runs.proofs.CutReports.{same-report}
use Rattle.tree_runs.proofs.laws.a_cut_is_not_seen.Goals as goal

pub returns-clause-seen : goal.returns-clause-seen
returns-clause-seen c = cuts-nothing-seen

pub returns-clause-report : goal.returns-clause-report
returns-clause-report c = λ files task before after report. same-report (read_cut files) (read_whole files) task before after report (cuts-nothing-seen files)
