use Rattle.std.proofs.Common.{sym, ◌∙◌}
use Rattle.object_order.specs.Views.{world_of}
use Rattle.package_needs.proofs.KinLemmas.{no_pointer}
use Rattle.package_needs.proofs.kin.base_by.Goals as goal

pub returns : goal.returns
returns c = no_pointer (world_of c.args.view.now) c.args.at c.base_at.result (rw c.kind_at.ensures at (sym c.is_pointer.ensures ∙ c.if-is_pointer.false)) c.base_at.ensures
