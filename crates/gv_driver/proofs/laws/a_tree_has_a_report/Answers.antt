use Rattle.gv_driver.proofs.ExistenceLaws.{run-exists}
use Rattle.gv_driver.proofs.laws.a_tree_has_a_report.Goals as goal

pub returns : goal.returns
returns c = run-exists
