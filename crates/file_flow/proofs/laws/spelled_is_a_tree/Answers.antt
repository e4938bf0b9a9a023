use Rattle.file_flow.proofs.TreeLemmas.{whole_tree}
use Rattle.file_flow.proofs.laws.spelled_is_a_tree.Goals as goal

pub returns : goal.returns
returns c bytes tree is = whole_tree tree bytes is
