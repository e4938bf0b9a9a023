use Rattle.std.proofs.Common.{◌≡◌, ◌++◌, ◌∷◌, [], ap, ◌∙◌, map}
use Rattle.std.proofs.lemmas.Result.{err_from_is_err_and}
use Rattle.gv_bytes.specs.Reading.{text_at, each_at}
use Rattle.gv_bytes.proofs.Loops.{goes_on, fails, is_done}
use Rattle.fact_cache.proofs.ListFacts.{map-push}
use Rattle.fact_cache.proofs.coded.texts_of.Goals as goal

pub returns-in_err-text : goal.returns-in_err-text
returns-in_err-text c =
    let p = err_from_is_err_and c.from_residual.result c.from_residual.ensures.1 in
    rw (p.1, p.2) (fails text_at c.in_err-text.field-0.0 (map (λ t. t.now) c.loop.list.items) c.args.count c.loop.counter c.loop.rest.now (each_at text_at c.args.count c.args.bytes.now) c.loop-test.true c.in_err-text.ensures c.loop.invariant)

pub loop-preserved : goal.loop-preserved
loop-preserved c =
    let e : map (λ t. t.now) c.push.new.self.items ≡ map (λ t. t.now) c.loop.list.items ++ c.in_ok-text.text.now ∷ [] = ap (map (λ t. t.now)) c.in_ok-push.ensures.items ∙ map-push (λ t. t.now) c.loop.list.items c.in_ok-text.text in
    rw e (goes_on text_at (map (λ t. t.now) c.loop.list.items) c.args.count c.loop.counter c.loop.rest.now c.in_ok-text.text.now c.in_ok-text.after.now (each_at text_at c.args.count c.args.bytes.now) c.loop-test.true c.in_ok-text.ensures c.loop.invariant)

pub returns : goal.returns
returns c = is_done text_at (map (λ t. t.now) c.loop.list.items) c.args.count c.loop.counter c.loop.rest.now (each_at text_at c.args.count c.args.bytes.now) c.loop-test.false c.loop.invariant
