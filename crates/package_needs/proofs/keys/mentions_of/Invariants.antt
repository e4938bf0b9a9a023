use Rattle.object_order.specs.Views.{world_of}
use Rattle.package_needs.specs.Keys.{up, flagged, IsMentioned}
use Rattle.package_needs.proofs.MentionLemmas.{Rows}
use Rattle.package_needs.proofs.keys.mentions_of.Given as goal

abbrev pub invariant-loop-file : goal.invariant-loop-file
invariant-loop-file l = Rows (IsMentioned (world_of l.view) (flagged l.elsewhere.items) (up l.view.trees.now)) l.view.trees.now l.rows.items l.file
