use Rattle.folder.proofs.PathLemmas.{path-at}
use Rattle.folder.proofs.reading.read_all.Goals as goal

pub read_one-requires : goal.read_one-requires
read_one-requires g c = path-at c.args.paths.now c.loop-path.path-index c.path-item.result c.as_str.result.now c.requires c.loop-path-test.true c.path-item.is c.as_str.ensures.value
