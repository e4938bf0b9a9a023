use Rattle.package_needs.proofs.order.needs_order.Goals as goal

pub returns : goal.returns
returns c = record {
  ordered = record { rows = c.in_ok-needs.ensures.rows; names = c.in_ok-needs.ensures.names; world = c.in_ok-needs.ensures.world; «is» = c.in_ok-needs.ensures.«is»; ordered = c.in_ok-needs.ensures.ordered };
}
