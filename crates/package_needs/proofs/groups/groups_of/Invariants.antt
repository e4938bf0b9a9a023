use Rattle.object_order.specs.Views.{world_of}
use Rattle.package_needs.specs.Groups.{GroupsGain, InFiles}
use Rattle.package_needs.proofs.groups.groups_of.Given as goal

abbrev pub invariant-loop-file : goal.invariant-loop-file
invariant-loop-file l = GroupsGain l.view.numbers l.initial.groups.items l.groups.items (InFiles (world_of l.view) l.file)
