use Rattle.tree_runs.proofs.ReadingLaws.{can-be-read}
use Rattle.tree_runs.proofs.laws.each_tree_can_be_read.Goals as goal

pub returns : goal.returns
returns c = λ tree ordered. can-be-read c.each_text_has_a_verdict.ensures c.each_tree_has_packages.ensures tree
