use Rattle.std.proofs.Common.{arith}
use Rattle.lock_types.proofs.OrderLemmas.{closed, ordered}
use Rattle.lock_types.proofs.flags.type_order.Goals as goal

pub order-requires-clause-closed : goal.order-requires-clause-closed
order-requires-clause-closed c = closed c.args.t.now c.requires.table c.args.graph.now c.requires.parts

pub order-requires-clause-few : goal.order-requires-clause-few
order-requires-clause-few c = let size = c.requires.parts.size in omega (arith, size, c.requires.few)

pub returns : goal.returns
returns c = ordered c.args.t.now c.requires.table c.args.graph.now c.requires.parts c.in_ok-list.list.items c.in_ok-list.ensures
