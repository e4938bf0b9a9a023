use Rattle.std.proofs.Common.{◌≡◌, take}
use Rattle.scripts.specs.declared.path.Segment.TheVariants.{Empty}
use Rattle.scripts.specs.Segments.{segment_after}
use Rattle.scripts.proofs.path.last_segment.Given as goal

abbrev pub invariant-loop-byte : goal.invariant-loop-byte
invariant-loop-byte l = l.segment ≡ segment_after Empty (take l.byte-index l.bytes)
