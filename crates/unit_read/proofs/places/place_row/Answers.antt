use Rattle.unit_read.specs.Places.{standing_at}
use Rattle.unit_read.proofs.RowLemmas.{puts_more}
use Rattle.unit_read.proofs.places.place_row.Goals as goal

pub loop-n-preserved : goal.loop-n-preserved
loop-n-preserved c = puts_more (standing_at c.args.nodes.now) c.loop-n.n _ c.loop-n.row.items c.put_node.new.row.items c.loop-n.invariant c.put_node.ensures
