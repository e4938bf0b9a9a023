use Rattle.findings.specs.Passes.{unit_in, marks_in}
use Rattle.vet_locks.specs.Held.{MayTell}
use Rattle.vet_locks.proofs.ReportLemmas.{refuted, no_copies}
use Rattle.vet_locks.proofs.copy_locks.CopyLocks.run.Goals as goal

pub returns-then-not-may_tell_any : goal.returns-then-not-may_tell_any
returns-then-not-may_tell_any c =
    let u = unit_in c.args.pass.now in
    let marks = marks_in c.args.pass.now in
    no_copies u marks c.new.result.items (refuted (MayTell u marks) c.may_tell_any.result c.may_tell_any.ensures c.if-not-may_tell_any.true) c.new.ensures.items
