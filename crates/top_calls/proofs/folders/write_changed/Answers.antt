use Rattle.top_calls.proofs.FolderLaws.{writes-cut}
use Rattle.top_calls.proofs.folders.write_changed.Goals as goal

pub returns-in-Err-clause-writes : goal.returns-in-Err-clause-writes
returns-in-Err-clause-writes g c = λ files t. writes-cut (g.T.Tree.view c.write_files.new.tree).files files c.args.changed.now c.cut_of.result c.cut_of.ensures.writing (c.in-Err.ensures.writes files t)
