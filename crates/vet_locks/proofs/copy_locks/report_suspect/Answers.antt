use Rattle.findings.specs.Passes.{unit_in, marks_in}
use Rattle.vet_locks.specs.CopyLocks.{IsLockSuspect, told_of}
use Rattle.vet_locks.proofs.ReportLemmas.{gains_if, gains_unless}
use Rattle.vet_locks.proofs.copy_locks.report_suspect.Goals as goal

pub returns-then-is_lock_suspect : goal.returns-then-is_lock_suspect
returns-then-is_lock_suspect c =
    let p = c.args.p.now in
    gains_if (IsLockSuspect (unit_in p) (marks_in p) c.args.file c.args.s) c.is_lock_suspect.result (told_of (unit_in p) c.args.file c.args.s) c.args.found.now.items c.push_told.new.found.items c.is_lock_suspect.ensures
    c.if-is_lock_suspect.true c.in_ok-push_told.ensures

pub returns : goal.returns
returns c =
    let p = c.args.p.now in
    gains_unless (IsLockSuspect (unit_in p) (marks_in p) c.args.file c.args.s) c.is_lock_suspect.result (told_of (unit_in p) c.args.file c.args.s) c.args.found.now.items c.is_lock_suspect.ensures c.if-is_lock_suspect.false
