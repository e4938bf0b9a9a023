use Rattle.file_uses.proofs.UseLemmas.{no_parts, one_part_more, all_parts}
use Rattle.file_uses.proofs.uses.clear_all.Goals as goal

pub loop-part-init : goal.loop-part-init
loop-part-init c = no_parts c.args.flags.now.items

pub loop-part-preserved : goal.loop-part-preserved
loop-part-preserved c =
    one_part_more c.args.flags.now.items c.loop-part.flags.items c.clear.new.flags.items c.args.parts.now c.loop-part.part-index c.loop-part-test.true c.loop-part.invariant c.clear.ensures

pub returns : goal.returns
returns c = all_parts c.args.flags.now.items c.loop-part.flags.items c.args.parts.now c.loop-part.part-index c.loop-part-test.false c.loop-part.invariant
