use Rattle.object_order.specs.Views.{meant_in}
use Rattle.object_order.proofs.QuietLemmas.{RowBelow}
use Rattle.object_order.proofs.quiet.quiet_row.Given as goal

abbrev pub invariant-loop-n : goal.invariant-loop-n
invariant-loop-n l = RowBelow l.bodies (meant_in l.meant) l.file l.nodes l.flags.items l.n
