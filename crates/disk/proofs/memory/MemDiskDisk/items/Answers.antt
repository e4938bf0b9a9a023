use Rattle.std.proofs.Common.{map, ap, ◌∙◌, flat_map}
use Rattle.disk.specs.Folders.{named_of}
use Rattle.disk.specs.Memory.{placed_of, item_in}
use Rattle.disk.proofs.MemoryLaws.{items-told}
use Rattle.disk.proofs.memory.MemDiskDisk.items.Goals as goal

pub returns-in-Ok-clause-told : goal.returns-in-Ok-clause-told
returns-in-Ok-clause-told c =
    items-told (map placed_of c.args.self.now.slots.items) (map placed_of c.next_fault.new.self.slots.items) c.args.folder.now (map named_of c.in-Ok.items.items)
    (c.in-Ok.ensures ∙ ap (λ z. flat_map (item_in c.args.folder.now) (map placed_of z)) c.deref.ensures.value)
    (ap (λ v. map placed_of v.items) c.next_fault.ensures.slots)
