use Rattle.typed_marks.specs.States.{so_far}
use Rattle.unit_read.specs.Subjects.{full_of, unit_of}
use Rattle.unit_read.specs.Units.{base_of}
use Rattle.type_answers.proofs.PendingLemmas.{pending_found}
use Rattle.type_answers.proofs.scene.SceneSeen.pending.Goals as goal

pub returns : goal.returns
returns c =
    let e = c.pending.ensures in
    let u = c.args.self.now.subject.now in
    pending_found (base_of (full_of u)) (unit_of u) (so_far c.args.self.now.state.now) c.args.t.now c.args.of c.pending.result e.waits e.is e.none
