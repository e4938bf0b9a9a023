use Rattle.object_order.specs.Views.{world_of}
use Rattle.package_needs.proofs.KinLemmas.{pointer_some, pointer_none}
use Rattle.package_needs.proofs.kin.base_of_pointer.Goals as goal

pub returns-in-Some : goal.returns-in-Some
returns-in-Some c = pointer_some (world_of c.args.view.now) c.args.at c.in-Some.to c.base_at.result c.pointed.result c.requires.pointer c.in-Some.is c.pointed.ensures c.base_at.ensures

pub returns-in-None : goal.returns-in-None
returns-in-None c = pointer_none (world_of c.args.view.now) c.args.at c.pointed.result c.requires.pointer c.in-None.is c.pointed.ensures
