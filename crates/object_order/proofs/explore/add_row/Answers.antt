use Rattle.object_order.proofs.SearchLemmas.{adds_row, finds_same}
use Rattle.object_order.proofs.explore.add_row.Goals as goal

pub returns-clause-finds : goal.returns-clause-finds
returns-clause-finds c = finds_same _ _ _ _ _ c.in_ok-row_of.ensures.finds c.in_ok-moves.ensures

pub returns-clause-row : goal.returns-clause-row
returns-clause-row c = adds_row _ _ _ _ _ _ c.deref.result.now c.in_ok-moves.ensures c.deref.ensures.value c.in_ok-longer.ensures c.in_ok-row_of.ensures.row
