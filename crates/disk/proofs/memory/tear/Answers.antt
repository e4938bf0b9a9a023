use Rattle.disk.proofs.MemoryLaws.{torn}
use Rattle.disk.proofs.memory.tear.Goals as goal

pub returns : goal.returns
returns c = torn c.args.files.now c.put-written.new.self c.args.path.now _ c.put-written.result c.put-written.ensures.put c.put-written.ensures.unchanged
