use Rattle.std.proofs.Common.{refl}
use Rattle.object_order.specs.Views.{world_of}
use Rattle.package_needs.proofs.GroupLemmas.{file_is}
use Rattle.package_needs.proofs.groups.add_file.Goals as goal

pub returns : goal.returns
returns c = file_is c.args.view.now.trees.now (world_of c.args.view.now) c.args.view.now.numbers c.args.file _ c.args.groups.now.items _ (λ at. refl) c.nodes_in-end.ensures.value c.in_ok-add_nodes.ensures
