use Rattle.mark_walk.specs.Asks.{filled}
use Rattle.object_order.specs.Spots.{place}
use Rattle.typed_marks.specs.Meanings.{Quiet}
use Rattle.typed_marks.specs.States.{so_far}
use Rattle.unit_read.specs.Subjects.{unit_of, cell}
use Rattle.unit_read.proofs.CellLemmas.{row_more}
use Rattle.check_pkg.specs.References.{counted_at}
use Rattle.check_pkg.proofs.references.counted_row.Goals as goal

pub loop-node-preserved : goal.loop-node-preserved
loop-node-preserved c =
    row_more (λ n. counted_at (unit_of c.args.u.now) (filled Quiet (so_far c.args.s.now)) (cell c.args.methods.now.items) c.args.counted (place c.args.file n)) c.loop-node.row.items c.push.new.self.items c.loop-node.node
    c.counted_at-name.result c.loop-node.invariant c.counted_at-name.ensures c.in_ok-push.ensures.items
