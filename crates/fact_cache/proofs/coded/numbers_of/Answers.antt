use Rattle.std.proofs.Common.{◌≡◌, ◌++◌, ◌∷◌, [], ◌-◌, ◌^◌}
use Rattle.std.proofs.lemmas.Result.{err_from_is_err_and}
use Rattle.gv_bytes.specs.Reading.{natural_at, each_at}
use Rattle.gv_bytes.proofs.Loops.{goes_on, fails, is_done}
use Rattle.fact_cache.proofs.coded.numbers_of.Goals as goal

pub returns-in_err-number : goal.returns-in_err-number
returns-in_err-number c =
    let p = err_from_is_err_and c.from_residual.result c.from_residual.ensures.1 in
    rw (p.1, p.2) (fails (natural_at (2 ^ 64 - 1)) c.in_err-number.field-0.0 c.loop.list.items c.args.count c.loop.counter c.loop.rest.now (each_at (natural_at (2 ^ 64 - 1)) c.args.count c.args.bytes.now) c.loop-test.true c.in_err-number.ensures c.loop.invariant)

pub loop-preserved : goal.loop-preserved
loop-preserved c =
    let e : c.push.new.self.items ≡ c.loop.list.items ++ c.in_ok-number.number ∷ [] = c.in_ok-push.ensures.items in
    rw e (goes_on (natural_at (2 ^ 64 - 1)) c.loop.list.items c.args.count c.loop.counter c.loop.rest.now c.in_ok-number.number c.in_ok-number.after.now (each_at (natural_at (2 ^ 64 - 1)) c.args.count c.args.bytes.now) c.loop-test.true c.in_ok-number.ensures c.loop.invariant)

pub returns : goal.returns
returns c = is_done (natural_at (2 ^ 64 - 1)) c.loop.list.items c.args.count c.loop.counter c.loop.rest.now (each_at (natural_at (2 ^ 64 - 1)) c.args.count c.args.bytes.now) c.loop-test.false c.loop.invariant
