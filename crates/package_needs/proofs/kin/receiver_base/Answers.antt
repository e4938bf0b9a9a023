use Rattle.object_order.specs.Views.{world_of}
use Rattle.package_needs.proofs.KinLemmas.{receiver_some}
use Rattle.package_needs.proofs.kin.receiver_base.Goals as goal

pub returns-in-Some : goal.returns-in-Some
returns-in-Some c = receiver_some (world_of c.args.view.now) c.args.at c.in-Some.end c.base_by.result c.end_of.result c.in-Some.is c.end_of.ensures c.base_by.ensures
