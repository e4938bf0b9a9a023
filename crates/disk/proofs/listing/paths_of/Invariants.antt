use Rattle.std.proofs.Common.{◌≡◌, map, take, string_bytes}
use Rattle.gv_base.specs.Trees.{paths_of}
use Rattle.disk.proofs.listing.paths_of.Given as goal

abbrev pub invariant-loop-file : goal.invariant-loop-file
invariant-loop-file l = map string_bytes l.list.items ≡ take l.file (paths_of l.files)
