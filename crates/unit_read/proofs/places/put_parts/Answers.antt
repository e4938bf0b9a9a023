use Rattle.std.proofs.Common.{refl, subst}
use Rattle.unit_read.specs.Places.{nth_part, part_items, PutsAll}
use Rattle.unit_read.proofs.RowLemmas.{puts_none, puts_more}
use Rattle.unit_read.proofs.places.put_parts.Goals as goal

pub loop-slot-init : goal.loop-slot-init
loop-slot-init c = puts_none _ _ refl

pub loop-slot-preserved : goal.loop-slot-preserved
loop-slot-preserved c =
    puts_more (nth_part c.args.nodes.now c.args.around c.args.node.now) c.loop-slot.slot c.args.row.now.items c.loop-slot.row.items c.put_part.new.row.items c.loop-slot.invariant
    (subst (λ o. PutsAll c.loop-slot.row.items c.put_part.new.row.items (part_items c.args.nodes.now c.args.around c.loop-slot.slot o)) c.part_of.ensures c.put_part.ensures)
