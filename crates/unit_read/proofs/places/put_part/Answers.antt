use Rattle.std.proofs.Common.{refl, subst}
use Rattle.unit_read.specs.Places.{nth_item, standing, PutsAll}
use Rattle.unit_read.proofs.RowLemmas.{puts_none, puts_more}
use Rattle.unit_read.proofs.places.put_part.Goals as goal

pub loop-index-init : goal.loop-index-init
loop-index-init c = puts_none _ _ refl

pub loop-index-preserved : goal.loop-index-preserved
loop-index-preserved c =
    puts_more (nth_item c.args.nodes.now c.args.around c.args.slot c.args.list) c.loop-index.index c.args.row.now.items c.loop-index.row.items c.put_item.new.row.items c.loop-index.invariant
    (subst (λ o. PutsAll c.loop-index.row.items c.put_item.new.row.items (standing c.args.around c.args.slot c.loop-index.index o)) c.item.ensures c.put_item.ensures)
