use Rattle.mark_walk.specs.Asks.{filled}
use Rattle.typed_marks.specs.Meanings.{Quiet}
use Rattle.typed_marks.specs.States.{so_far}
use Rattle.unit_read.specs.Imports.{bare}
use Rattle.unit_read.specs.Subjects.{full_of}
use Rattle.check_pkg.specs.InBodies.{IsRefusedInBody}
use Rattle.check_pkg.specs.Late.{IsRefusedByRow}
use Rattle.check_pkg.proofs.GainLemmas.{gains_then}
use Rattle.check_pkg.proofs.late_rules.refuse_late.Goals as goal

pub refuse_rows-requires-clause-small : goal.refuse_rows-requires-clause-small
refuse_rows-requires-clause-small c = c.requires.bodies.small

pub refuse_rows-requires-clause-few : goal.refuse_rows-requires-clause-few
refuse_rows-requires-clause-few c = c.requires.bodies.few

pub returns : goal.returns
returns c =
    let u = full_of c.args.u.now in
    let marks = filled Quiet (so_far c.args.s.now) in
    gains_then (IsRefusedByRow u marks) (IsRefusedInBody (bare u) marks) c.args.list.now.items c.refuse_rows.new.list.items c.refuse_bodies.new.list.items
    c.in_ok-refuse_rows.ensures c.in_ok-refuse_bodies.ensures
