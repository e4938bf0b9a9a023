use Rattle.go_tree.proofs.NodeLemmas.{differ}
use Rattle.mark_walk.specs.Asks.{filled}
use Rattle.typed_marks.specs.Meanings.{Quiet}
use Rattle.typed_marks.specs.States.{so_far}
use Rattle.unit_read.specs.Subjects.{unit_of}
use Rattle.check_pkg.proofs.BodyLemmas.{no_bodies_gain, faults_gain}
use Rattle.check_pkg.proofs.in_bodies.refuse_bodies.Goals as goal

pub counted_rows-requires-clause-small : goal.counted_rows-requires-clause-small
counted_rows-requires-clause-small c = c.requires.bodies.small

pub counted_rows-requires-clause-few : goal.counted_rows-requires-clause-few
counted_rows-requires-clause-few c = c.requires.bodies.few

pub returns : goal.returns
returns c =
    faults_gain (unit_of c.args.u.now) (filled Quiet (so_far c.args.s.now)) c.new-methods.result.items c.in_ok-meant.meant.items c.in_ok-found.found.items c.deref.result.now
    c.args.list.now.items c.refuse_faults.new.list.items c.new-methods.ensures.items c.in_ok-meant.ensures c.deref.ensures.value c.in_ok-found.ensures c.in_ok-refuse_faults.ensures

pub returns-then-not-asks : goal.returns-then-not-asks
returns-then-not-asks c =
    no_bodies_gain (unit_of c.args.u.now) (filled Quiet (so_far c.args.s.now)) c.args.list.now.items c.requires.bodies
    (λ may. differ c.in_ok-asks.asks c.if-not-asks.true (c.in_ok-asks.ensures.1 may))
