use Rattle.std.proofs.Common.{refl}
use Rattle.top_calls.specs.Workers.{work_of}
use Rattle.top_calls.proofs.RunsLaws.{RunLaws}
use Rattle.top_calls.proofs.CallLaws.{loads-none, load-none, load-causes}
use Rattle.top_calls.proofs.gvet.load.Goals as goal

pub returns-in-Err-clause-loads : goal.returns-in-Err-clause-loads
returns-in-Err-clause-loads g c =
    let law : RunLaws = (let l = c.one_report_of_a_tree.ensures in record { report = l.report; cache = l.cache; fresh = l.fresh; honest = l.honest; text = l.text; value = l.value }) in
    loads-none law c.args.options.now c.args.count (g.O.Sink.view c.args.output.now) (g.K.Keeper.view c.args.keeper.now) (work_of g.W.Kit.loads g.W.Kit.runs c.args.options.now.workers c.args.kits.now) _ c.number.ensures

pub returns-in-Err-clause-causes : goal.returns-in-Err-clause-causes
returns-in-Err-clause-causes g c = load-none (g.O.Sink.view c.args.output.now) (g.K.Keeper.view c.args.keeper.now) _ c.number.ensures

pub returns-in-Ok-clause-loads : goal.returns-in-Ok-clause-loads
returns-in-Ok-clause-loads g c = record { after = _; sure = refl; session = rw c.in-Ok.ensures at (rw c.new-source.ensures.given at (rw c.new-source.ensures.left at c.session.ensures.session)) }

pub returns-in-Ok-clause-causes : goal.returns-in-Ok-clause-causes
returns-in-Ok-clause-causes g c = load-causes _ _ _ _ _ _ _ refl c.session.ensures.causes
