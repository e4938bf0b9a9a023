use Rattle.object_order.specs.Views.{world_of}
use Rattle.package_needs.proofs.LinkLemmas.{AreLinksBelow}
use Rattle.package_needs.proofs.ends.links_of.Given as goal

abbrev pub invariant-loop-entry : goal.invariant-loop-entry
invariant-loop-entry l = AreLinksBelow (world_of l.view) l.view.entries.items l.far l.links.items l.entry-index
