use Rattle.disk.proofs.MemoryLaws.{del-others}
use Rattle.disk.proofs.memory.MemDiskDisk.discard.Goals as goal

pub returns-then-is_none-clause-held : goal.returns-then-is_none-clause-held
returns-then-is_none-clause-held c = del-others c.args.self.now.files c.next_fault.new.self.files c.del-there.new.self c.args.path.now c.next_fault.ensures.files c.del-there.ensures.del
