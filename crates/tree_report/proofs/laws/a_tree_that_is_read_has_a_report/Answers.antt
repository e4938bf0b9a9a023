use Rattle.tree_report.proofs.ExistenceLemmas.{report-exists}
use Rattle.tree_report.proofs.laws.a_tree_that_is_read_has_a_report.Goals as goal

pub returns : goal.returns
returns c = report-exists c.a_tree_has_a_report.ensures
