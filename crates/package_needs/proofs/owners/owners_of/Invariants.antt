use Rattle.object_order.specs.Views.{world_of}
use Rattle.package_needs.specs.Kin.{IsOwnerAt}
use Rattle.package_needs.proofs.MentionLemmas.{Rows}
use Rattle.package_needs.proofs.owners.owners_of.Given as goal

abbrev pub invariant-loop-file : goal.invariant-loop-file
invariant-loop-file l = Rows (IsOwnerAt (world_of l.view)) l.trees l.rows.items l.file
