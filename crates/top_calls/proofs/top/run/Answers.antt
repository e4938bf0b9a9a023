use Rattle.top_calls.proofs.BeginLaws.{Runs-cut, Runs-whole}
use Rattle.top_calls.proofs.WorkersLaws.{did-begun}
use Rattle.top_calls.proofs.top.run.Goals as goal

pub returns-in-Err-clause-runs : goal.returns-in-Err-clause-runs
returns-in-Err-clause-runs g c = Runs-cut c.args.options.now (g.I.Source.view c.args.input.now) (g.O.Sink.view c.args.output.now) (g.O.Sink.view c.begin.new.output) _ (g.K.Keeper.view c.args.keeper.now).kept (g.K.Keeper.view c.begin.new.keeper).kept c.in-Err.cut c.in-Err.ensures.begins

pub returns-in-Ok-clause-runs : goal.returns-in-Ok-clause-runs
returns-in-Ok-clause-runs g c = Runs-whole c.args.options.now (g.I.Source.view c.args.input.now) (g.I.Source.view c.converse.new.input) (g.O.Sink.view c.args.output.now) (g.O.Sink.view c.begin.new.output) (g.O.Sink.view c.converse.new.output) _ _ (g.K.Keeper.view c.args.keeper.now).kept (g.K.Keeper.view c.begin.new.keeper).kept (g.K.Keeper.view c.converse.new.keeper).kept c.in-Ok.session c.converse.new.session c.converse.result c.in-Ok.ensures.ready c.in-Ok.ensures.begins c.converse.ensures.turns

pub converse-requires-clause-room : goal.converse-requires-clause-room
converse-requires-clause-room g c = λ κs _. did-begun g.W.Kit.loads g.W.Kit.runs c.in-Ok.session.offset c.args.kits.now c.requires.room
