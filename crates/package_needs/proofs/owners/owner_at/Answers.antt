use Rattle.object_order.specs.Views.{world_of}
use Rattle.package_needs.proofs.KinLemmas.{owner_some, owner_none}
use Rattle.package_needs.proofs.owners.owner_at.Goals as goal

pub returns-in-Some : goal.returns-in-Some
returns-in-Some c = owner_some (world_of c.args.view.now) c.args.at c.method_at.result c.in-Some.method c.in-Some.is c.method_at.ensures

pub returns-in-None : goal.returns-in-None
returns-in-None c = owner_none (world_of c.args.view.now) c.args.at c.method_at.result c.in-None.is c.method_at.ensures
