use Rattle.folder.proofs.FrontLemmas.{put_paths}
use Rattle.folder.proofs.reading.put.Goals as goal

pub returns-in-Ok-clause-paths : goal.returns-in-Ok-clause-paths
returns-in-Ok-clause-paths c = put_paths c.args.files.now c.put.new.self c.args.path.now c.args.bytes.now c.requires c.in-Ok.ensures.put
