use Rattle.std.proofs.Common.{arith, refl, ◌∙◌}
use Rattle.object_order.specs.Views.{world_of}
use Rattle.package_needs.proofs.GroupLemmas.{files_none, file_more, all_methods}
use Rattle.package_needs.proofs.groups.groups_of.Goals as goal

pub loop-file-init : goal.loop-file-init
loop-file-init c = files_none (world_of c.args.view.now) c.args.view.now.numbers c.in_ok-groups.groups.items

pub add_file-requires-clause-size : goal.add_file-requires-clause-size
add_file-requires-clause-size c = c.loop-file.invariant.size ∙ (c.in_ok-groups.ensures.size ∙ c.count.ensures)

pub loop-file-preserved : goal.loop-file-preserved
loop-file-preserved c = file_more (world_of c.args.view.now) c.args.view.now.numbers c.loop-file.file _ c.loop-file.groups.items _ c.loop-file.invariant c.in_ok-add_file.ensures

pub returns : goal.returns
returns c = all_methods c.args.view.now.trees.now (world_of c.args.view.now) c.args.view.now.numbers c.loop-file.file c.in_ok-groups.groups.items c.loop-file.groups.items (λ at. refl)
    (let t = c.loop-file-test.false in omega arith) c.in_ok-groups.ensures.empty c.loop-file.invariant
