use Rattle.disk.proofs.MemoryLaws.{put-writes}
use Rattle.disk.proofs.memory.write_file.Goals as goal

pub returns-in-Ok : goal.returns-in-Ok
returns-in-Ok c = put-writes c.args.files.now c.put.new.self c.args.path.now c.args.bytes.now c.in-Ok.ensures.put
