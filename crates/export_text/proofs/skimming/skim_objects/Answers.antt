use Rattle.std.proofs.lemmas.Result.{err_from_is_err_and}
use Rattle.export_text.specs.Skimming.{each_skimmed, object_skimmed}
use Rattle.export_text.proofs.SkimLoops.{each_goes_on, each_fails, each_is_done}
use Rattle.export_text.proofs.skimming.skim_objects.Goals as goal

pub returns-in_err-after : goal.returns-in_err-after
returns-in_err-after c =
    let p = err_from_is_err_and c.from_residual.result c.from_residual.ensures.1 in
    rw (p.1, p.2) (each_fails (object_skimmed c.args.path.now) c.in_err-after.field-0.0 c.args.count c.loop.counter c.loop.out.items c.loop.rest.now (each_skimmed (object_skimmed c.args.path.now) c.args.count c.args.out.now.items c.args.bytes.now)
    c.loop-test.true c.in_err-after.ensures c.loop.invariant)

pub loop-preserved : goal.loop-preserved
loop-preserved c =
    each_goes_on (object_skimmed c.args.path.now) c.args.count c.loop.counter c.loop.out.items c.skim_object.new.out.items c.loop.rest.now c.in_ok-after.after.now (each_skimmed (object_skimmed c.args.path.now) c.args.count c.args.out.now.items c.args.bytes.now)
    c.loop-test.true c.in_ok-after.ensures c.loop.invariant

pub returns : goal.returns
returns c =
    each_is_done (object_skimmed c.args.path.now) c.args.count c.loop.counter c.loop.out.items c.loop.rest.now (each_skimmed (object_skimmed c.args.path.now) c.args.count c.args.out.now.items c.args.bytes.now) c.loop-test.false c.loop.invariant
