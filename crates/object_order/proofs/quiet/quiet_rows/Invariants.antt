use Rattle.object_order.specs.Views.{meant_in}
use Rattle.object_order.proofs.QuietLemmas.{RowsBelow}
use Rattle.object_order.proofs.quiet.quiet_rows.Given as goal

abbrev pub invariant-loop-file : goal.invariant-loop-file
invariant-loop-file l = RowsBelow l.bodies (meant_in l.meant) l.trees l.rows.items l.file
