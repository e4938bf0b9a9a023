use Rattle.std.proofs.Common.{refl}
use Rattle.std.proofs.lemmas.List.{take_all}
use Rattle.package_needs.proofs.AboveLemmas.{parts_none, parts_more, parts_all}
use Rattle.package_needs.proofs.above.mark_parts.Goals as goal

pub loop-part-init : goal.loop-part-init
loop-part-init c = parts_none c.args.table.now.items c.args.n c.args.parts.now

pub loop-part-preserved : goal.loop-part-preserved
loop-part-preserved c = parts_more c.args.table.now.items c.loop-part.table.items _ c.args.n c.loop-part.part-index _ c.args.parts.now c.loop-part-test.true refl c.loop-part.invariant c.mark.ensures

pub returns : goal.returns
returns c = parts_all c.args.table.now.items _ c.args.n c.loop-part.part-index c.args.parts.now (take_all c.loop-part.part-index c.args.parts.now c.loop-part-test.false) c.loop-part.invariant
