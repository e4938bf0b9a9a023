use Rattle.top_calls.proofs.FreeLaws.{due-by, run-by}
use Rattle.top_calls.proofs.laws.workers_change_nothing.Goals as goal

pub returns-clause-script : goal.returns-clause-script
returns-clause-script c = λ options workers. due-by workers options

pub returns-clause-single : goal.returns-clause-single
returns-clause-single c = λ options workers. run-by workers options
