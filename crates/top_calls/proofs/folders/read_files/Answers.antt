use Rattle.top_calls.proofs.FolderLaws.{reads-tree}
use Rattle.top_calls.proofs.folders.read_files.Goals as goal

pub returns-in-Ok-clause-reads : goal.returns-in-Ok-clause-reads
returns-in-Ok-clause-reads g c = reads-tree (g.T.Tree.view c.args.tree.now).files c.in-Ok.files c.in-Ok.ensures.reads c.in-Ok.ensures.whole
