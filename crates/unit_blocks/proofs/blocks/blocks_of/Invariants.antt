use Rattle.unit_blocks.specs.Blocks.{AreBlocks}
use Rattle.unit_blocks.proofs.blocks.blocks_of.Given as goal

abbrev pub invariant-loop-i : goal.invariant-loop-i
invariant-loop-i l = AreBlocks l.file l.count l.names l.i l.groups.items
