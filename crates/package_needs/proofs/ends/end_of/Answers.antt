use Rattle.object_order.specs.Views.{world_of}
use Rattle.package_needs.proofs.EndLemmas.{end_is}
use Rattle.package_needs.proofs.ends.end_of.Goals as goal

pub returns : goal.returns
returns c = rw c.ended_by.ensures (end_is (world_of c.args.view.now) c.args.view.now.entries.items c.args.far c.args.table.now.items c.args.at c.peel-bare.result c.step_from-to.result
    c.requires c.peel-bare.ensures.peels c.step_from-to.ensures)
