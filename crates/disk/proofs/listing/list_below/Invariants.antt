use Rattle.std.proofs.Common.{◌≡◌, ◌^◌, map, string_bytes}
use Rattle.disk.proofs.Progressing.{UnderWay}
use Rattle.disk.proofs.Waiting.{weights}
use Rattle.disk.proofs.listing.list_below.Given as goal

abbrev pub invariant-folders : goal.invariant-folders
invariant-folders g l = record {
  slots : g.D.Disk.slots l.disk ≡ g.D.Disk.slots l.initial.disk;
  held : g.D.Disk.held l.disk ≡ g.D.Disk.held l.initial.disk;
  way : UnderWay (g.D.Disk.slots l.disk) l.found (map string_bytes l.waiting.items);
}

abbrev pub decreases-folders : goal.decreases-folders
decreases-folders g l = weights (2 ^ 64) (map string_bytes l.waiting.items)
