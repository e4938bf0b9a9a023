use Rattle.tree_runs.proofs.ExistenceLaws.{run-exists}
use Rattle.tree_runs.proofs.laws.each_tree_has_a_report.Goals as goal

pub returns : goal.returns
returns c = λ outcomes analyses. run-exists (c.a_tree_that_is_read_has_a_report.ensures outcomes analyses) c.each_tree_can_be_read.ensures
