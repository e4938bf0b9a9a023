use Rattle.std.proofs.Common.{◌≡◌, ◌++◌, ◌∷◌, []}
use Rattle.std.proofs.lemmas.Result.{err_from_is_err_and}
use Rattle.gv_bytes.specs.Reading.{each_at}
use Rattle.gv_bytes.proofs.Loops.{goes_on, fails, is_done}
use Rattle.fact_codec.specs.Texts.{entry_at}
use Rattle.fact_codec.proofs.reading.entries_of.Goals as goal

pub returns-in_err-entry : goal.returns-in_err-entry
returns-in_err-entry g c =
    let at = entry_at g.F.FactKind.fact_at in
    let p = err_from_is_err_and c.from_residual.result c.from_residual.ensures.1 in
    rw (p.1, p.2) (fails at c.in_err-entry.field-0.0 c.loop.list.items c.args.count c.loop.counter c.loop.rest.now (each_at at c.args.count c.args.bytes.now) c.loop-test.true c.in_err-entry.ensures c.loop.invariant)

pub loop-preserved : goal.loop-preserved
loop-preserved g c =
    let at = entry_at g.F.FactKind.fact_at in
    let e : c.push.new.self.items ≡ c.loop.list.items ++ c.in_ok-entry.entry ∷ [] = c.in_ok-push.ensures.items in
    rw e (goes_on at c.loop.list.items c.args.count c.loop.counter c.loop.rest.now c.in_ok-entry.entry c.in_ok-entry.after.now (each_at at c.args.count c.args.bytes.now) c.loop-test.true c.in_ok-entry.ensures c.loop.invariant)

pub returns : goal.returns
returns g c =
    let at = entry_at g.F.FactKind.fact_at in
    is_done at c.loop.list.items c.args.count c.loop.counter c.loop.rest.now (each_at at c.args.count c.args.bytes.now) c.loop-test.false c.loop.invariant
