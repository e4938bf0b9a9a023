use Rattle.std.proofs.Common.{sym}
use Rattle.findings.specs.Passes.{unit_in, marks_in}
use Rattle.vet_never.specs.InCode.{callee_in}
use Rattle.vet_never.proofs.CalleeLemmas.{panic_called, other_called}
use Rattle.vet_never.proofs.callees.told_at.Goals as goal

pub returns-then-is_panic : goal.returns-then-is_panic
returns-then-is_panic c = panic_called (unit_in c.args.p.now) (marks_in c.args.p.now) c.args.file c.args.n c.is_panic.result (sym c.is_panic.ensures) c.if-is_panic.true

pub returns : goal.returns
returns c =
    other_called (unit_in c.args.p.now) (marks_in c.args.p.now) c.args.file c.args.n c.is_panic.result (callee_in c.in_ok-told.told) (sym c.is_panic.ensures) c.if-is_panic.false c.in_ok-told.ensures
