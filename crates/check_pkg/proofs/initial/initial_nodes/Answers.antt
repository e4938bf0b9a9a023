use Rattle.mark_walk.specs.Asks.{filled}
use Rattle.typed_marks.specs.Meanings.{Quiet}
use Rattle.typed_marks.specs.States.{so_far}
use Rattle.unit_read.specs.Subjects.{full_of}
use Rattle.check_pkg.specs.Initial.{IsInitialFault}
use Rattle.check_pkg.proofs.NamedLemmas.{none_found}
use Rattle.check_pkg.proofs.initial.initial_nodes.Goals as goal

pub returns-then-not-may : goal.returns-then-not-may
returns-then-not-may c =
    none_found (IsInitialFault (full_of c.args.u.now) (filled Quiet (so_far c.args.s.now))) c.new.result.items c.new.ensures.items (c.in_ok-may.ensures c.if-not-may.true)
