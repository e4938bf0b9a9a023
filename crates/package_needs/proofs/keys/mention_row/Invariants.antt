use Rattle.object_order.specs.Views.{world_of}
use Rattle.package_needs.specs.Keys.{up, flagged, IsMentionRow}
use Rattle.package_needs.proofs.keys.mention_row.Given as goal

abbrev pub invariant-loop-node : goal.invariant-loop-node
invariant-loop-node l = IsMentionRow (world_of l.view) (flagged l.elsewhere.items) (up l.view.trees.now) l.file l.row.items l.node
