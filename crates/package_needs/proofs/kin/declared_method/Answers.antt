use Rattle.std.proofs.Common.{sym, ◌∙◌}
use Rattle.object_order.specs.Views.{world_of}
use Rattle.package_needs.proofs.KinLemmas.{method_some}
use Rattle.package_needs.proofs.kin.declared_method.Goals as goal

pub returns-in-Some : goal.returns-in-Some
returns-in-Some c = rw c.method_of.ensures (method_some (world_of c.args.view.now) c.args.at c.in-Some.receiver c.part_at-name.result c.receiver_base.result
    c.requires.declares (sym c.receiver_at.ensures ∙ c.in-Some.is) c.part_at-name.ensures c.receiver_base.ensures)
