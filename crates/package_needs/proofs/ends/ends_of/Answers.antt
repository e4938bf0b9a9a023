use Rattle.object_order.specs.Views.{world_of}
use Rattle.package_needs.proofs.EndLemmas.{arrivals_are_ends}
use Rattle.package_needs.proofs.CircleLemmas.{links_closed}
use Rattle.package_needs.proofs.ends.ends_of.Goals as goal

pub order_of_links-requires : goal.order_of_links-requires
order_of_links-requires c = links_closed (world_of c.args.view.now) c.args.view.now.entries.items c.args.far c.in_ok-links.links.items c.in_ok-links.ensures

pub returns : goal.returns
returns c = arrivals_are_ends (world_of c.args.view.now) c.args.view.now.entries.items c.args.far c.in_ok-links.links.items c.in_ok-table.table.items c.in_ok-links.ensures c.in_ok-table.ensures
