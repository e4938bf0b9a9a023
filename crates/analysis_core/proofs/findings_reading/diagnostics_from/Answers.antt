use Rattle.std.proofs.Common.{◌≡◌, ◌++◌, ◌∷◌, []}
use Rattle.std.proofs.lemmas.Result.{err_from_is_err_and}
use Rattle.gv_bytes.specs.Reading.{each_at}
use Rattle.gv_bytes.proofs.Loops.{goes_on, fails, is_done}
use Rattle.analysis_core.specs.Findings.{diagnostic_at}
use Rattle.analysis_core.proofs.findings_reading.diagnostics_from.Goals as goal

pub returns-in_err-diagnostic : goal.returns-in_err-diagnostic
returns-in_err-diagnostic c =
    let p = err_from_is_err_and c.from_residual.result c.from_residual.ensures.1 in
    rw (p.1, p.2) (fails diagnostic_at c.in_err-diagnostic.field-0.0 c.loop.list.items c.args.count c.loop.counter c.loop.rest.now (each_at diagnostic_at c.args.count c.args.bytes.now) c.loop-test.true c.in_err-diagnostic.ensures c.loop.invariant)

pub loop-preserved : goal.loop-preserved
loop-preserved c =
    let e : c.push.new.self.items ≡ c.loop.list.items ++ c.in_ok-diagnostic.diagnostic ∷ [] = c.in_ok-push.ensures.items in
    rw e (goes_on diagnostic_at c.loop.list.items c.args.count c.loop.counter c.loop.rest.now c.in_ok-diagnostic.diagnostic c.in_ok-diagnostic.after.now (each_at diagnostic_at c.args.count c.args.bytes.now) c.loop-test.true c.in_ok-diagnostic.ensures c.loop.invariant)

pub returns : goal.returns
returns c = is_done diagnostic_at c.loop.list.items c.args.count c.loop.counter c.loop.rest.now (each_at diagnostic_at c.args.count c.args.bytes.now) c.loop-test.false c.loop.invariant
