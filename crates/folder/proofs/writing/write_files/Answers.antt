use Rattle.folder.proofs.WriteLemmas.{write-cut}
use Rattle.folder.proofs.writing.write_files.Goals as goal

pub returns-in-Err-clause-writes : goal.returns-in-Err-clause-writes
returns-in-Err-clause-writes g c = λ files t.
    write-cut (g.T.Tree.view c.loop-file.tree).files (g.T.Tree.view c.write.new.self).files files c.args.changed.now c.loop-file.file-index c.file-item.result c.as_str.result.now c.as_slice.result.now c.in-Err.error c.in-Err.ensures.leaves
    (c.loop-file.invariant.holds files t) c.loop-file-test.true c.file-item.is c.as_str.ensures c.as_slice.ensures
