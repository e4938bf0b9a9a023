use Rattle.std.proofs.Common.{◌≡◌, ◌++◌, ◌∷◌, []}
use Rattle.std.proofs.lemmas.Result.{err_from_is_err_and}
use Rattle.gv_bytes.specs.Reading.{each_at}
use Rattle.gv_bytes.proofs.Loops.{goes_on, fails, is_done}
use Rattle.action_graph.specs.Marks.{mark_at}
use Rattle.action_graph.proofs.marks.marks_from.Goals as goal

pub returns-in_err-found : goal.returns-in_err-found
returns-in_err-found c =
    let p = err_from_is_err_and c.from_residual.result c.from_residual.ensures.1 in
    rw (p.1, p.2) (fails mark_at c.in_err-found.field-0.0 c.loop.marks.items c.args.count c.loop.counter c.loop.rest.now (each_at mark_at c.args.count c.args.bytes.now) c.loop-test.true c.in_err-found.ensures c.loop.invariant)

pub loop-preserved : goal.loop-preserved
loop-preserved c =
    let e : c.push.new.self.items ≡ c.loop.marks.items ++ c.in_ok-found.found ∷ [] = c.in_ok-push.ensures.items in
    rw e (goes_on mark_at c.loop.marks.items c.args.count c.loop.counter c.loop.rest.now c.in_ok-found.found c.in_ok-found.after.now (each_at mark_at c.args.count c.args.bytes.now) c.loop-test.true c.in_ok-found.ensures c.loop.invariant)

pub returns : goal.returns
returns c = is_done mark_at c.loop.marks.items c.args.count c.loop.counter c.loop.rest.now (each_at mark_at c.args.count c.args.bytes.now) c.loop-test.false c.loop.invariant
