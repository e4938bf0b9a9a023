use Rattle.object_order.proofs.pick.ordered.Goals as goal

pub returns : goal.returns
returns c = record {
  order = c.in_ok-order.order.items;
  flags = c.in_ok-flags.flags.items;
  full = c.in_ok-order.ensures;
  flagged = c.in_ok-flags.ensures;
  list_is = c.in_ok-list.ensures;
}
