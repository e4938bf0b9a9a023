use Rattle.std.proofs.Common.{◌≡◌, map, take, string_bytes, fold}
use Rattle.disk.specs.Folders.{named_of}
use Rattle.disk.specs.Names.{found_with, waiting_with}
use Rattle.disk.proofs.listing.take_items.Given as goal

abbrev pub invariant-loop-item : goal.invariant-loop-item
invariant-loop-item l = record {
  files : l.found ≡ fold (found_with l.folder) l.initial.found (map named_of (take l.item-index l.items));
  folders : map string_bytes l.waiting.items ≡ fold (waiting_with l.folder) (map string_bytes l.initial.waiting.items) (map named_of (take l.item-index l.items));
}
