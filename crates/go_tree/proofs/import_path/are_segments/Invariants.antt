use Rattle.std.proofs.Common.{◌≡◌, take}
use Rattle.std.specs.List.{fold}
use Rattle.go_tree.specs.ImportPaths.{segment_step}
use Rattle.go_tree.specs.declared.import_path.Segment.TheVariants.{Empty}
use Rattle.go_tree.proofs.import_path.are_segments.Given as goal

abbrev pub invariant-loop-byte : goal.invariant-loop-byte
invariant-loop-byte l = l.segment ≡ fold segment_step Empty (take l.byte-index l.path)
