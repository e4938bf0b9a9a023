use Rattle.go_kit.proofs.ReadLemmas.{files-more, no-file}
use Rattle.go_kit.proofs.read.read_files.Goals as goal

pub returns-in-None : goal.returns-in-None
returns-in-None c =
    no-file c.args.files.now c.loop-file.file-index c.file-item.result c.as_slice.result.now c.file-item.is c.as_slice.ensures c.loop-file-test.true
    (rw c.in-None.is at c.in_ok-read.ensures)

pub loop-file-preserved : goal.loop-file-preserved
loop-file-preserved c =
    files-more c.args.files.now c.loop-file.file-index c.file-item.result c.as_slice.result.now c.loop-file.trees.items _ c.in-Some.tree c.file-item.is c.as_slice.ensures c.loop-file-test.true
    c.loop-file.invariant (rw c.in-Some.is at c.in_ok-read.ensures) c.in_ok-push-in-Some.ensures.items
