use Rattle.std.proofs.Common.{length, refl, ap, ◌∙◌, arith}
use Rattle.mark_walk.specs.Asks.{filled}
use Rattle.typed_marks.specs.Meanings.{Quiet}
use Rattle.typed_marks.specs.States.{so_far}
use Rattle.unit_read.specs.Subjects.{unit_of}
use Rattle.unit_read.specs.Units.{nodes_at}
use Rattle.check_pkg.specs.ImportLists.{has, import_in}
use Rattle.check_pkg.proofs.UsedLemmas.{none_used, used_more, used_all, nodes_few}
use Rattle.check_pkg.proofs.used.used_in.Goals as goal

pub loop-node-init : goal.loop-node-init
loop-node-init c = none_used (unit_of c.args.u.now) (filled Quiet (so_far c.args.s.now)) c.args.file (has c.new-used.result) (λ j. rw c.new-used.ensures.empty refl)

pub uses_in-object-requires-clause-few : goal.uses_in-object-requires-clause-few
uses_in-object-requires-clause-few c = let few = nodes_few (unit_of c.args.u.now) c.args.file c.requires.small in let size = c.node_count-node-end.ensures in omega (arith, few, size, c.loop-node-test.true)

pub loop-node-preserved : goal.loop-node-preserved
loop-node-preserved c =
    used_more (unit_of c.args.u.now) (filled Quiet (so_far c.args.s.now)) c.args.file c.loop-node.node (has c.loop-node.used) (has c.note_import.new.used) c.import_in.result
    (c.import_in.ensures ∙ ap (import_in c.args.file) c.uses_in-object.ensures) c.loop-node.invariant c.in_ok-note_import.ensures

pub returns : goal.returns
returns c = used_all (unit_of c.args.u.now) (filled Quiet (so_far c.args.s.now)) c.args.file c.loop-node.node (length (nodes_at (unit_of c.args.u.now) c.args.file)) (has c.loop-node.used) (omega arith) c.loop-node.invariant
