use Rattle.mark_walk.specs.Asks.{filled}
use Rattle.object_order.specs.Spots.{place}
use Rattle.typed_marks.specs.Meanings.{Quiet}
use Rattle.typed_marks.specs.States.{so_far}
use Rattle.unit_read.specs.Subjects.{full_of}
use Rattle.selected_methods.specs.Selected.{IsSelectedMethod}
use Rattle.selected_methods.proofs.RowLemmas.{methods_none, methods_more}
use Rattle.selected_methods.proofs.rows.method_row.Goals as goal

pub loop-node-init : goal.loop-node-init
loop-node-init c =
    methods_none (λ n. IsSelectedMethod (full_of c.args.u.now) (filled Quiet (so_far c.args.s.now)) (place c.args.file n)) c.new-row.result.items c.new-row.ensures.items

pub loop-node-preserved : goal.loop-node-preserved
loop-node-preserved c =
    methods_more (λ n. IsSelectedMethod (full_of c.args.u.now) (filled Quiet (so_far c.args.s.now)) (place c.args.file n)) c.loop-node.row.items c.push.new.self.items c.loop-node.node
    c.in_ok-found.found c.loop-node.invariant c.in_ok-found.ensures c.in_ok-push.ensures.items
