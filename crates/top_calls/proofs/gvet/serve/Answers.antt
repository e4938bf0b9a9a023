use Rattle.std.proofs.Common.{refl}
use Rattle.top_calls.proofs.CallLaws.{serves-session, serves-run, serves-gen, serves-load}
use Rattle.top_calls.proofs.gvet.serve.Goals as goal

pub returns-in-Session-clause-serves : goal.returns-in-Session-clause-serves
returns-in-Session-clause-serves g c = serves-session c.args.words.now _ _ _ c.in-Session.is (rw c.options_of.ensures at c.session.ensures.session) c.session.ensures.causes refl

pub returns-in-Run-clause-serves : goal.returns-in-Run-clause-serves
returns-in-Run-clause-serves g c = serves-run c.args.words.now c.in-Run.kind _ _ _ c.in-Run.is (rw c.options_of-in-Run.ensures at c.one_run.ensures.single) c.one_run.ensures.causes refl

pub returns-in-Gen-clause-serves : goal.returns-in-Gen-clause-serves
returns-in-Gen-clause-serves g c = serves-gen c.args.words.now c.in-Gen.count _ _ _ c.in-Gen.is c.generate.ensures.generates c.generate.ensures.causes refl refl refl refl

pub returns-in-Load-clause-serves : goal.returns-in-Load-clause-serves
returns-in-Load-clause-serves g c = serves-load c.args.words.now c.in-Load.count _ _ _ c.in-Load.is (rw c.options_of-in-Load.ensures at c.load.ensures.loads) c.load.ensures.causes refl refl

pub session-requires-clause-workers : goal.session-requires-clause-workers
session-requires-clause-workers g c = λ κs _. rw c.options_of.ensures c.requires.workers

pub one_run-requires-clause-workers : goal.one_run-requires-clause-workers
one_run-requires-clause-workers g c = λ κs _. rw c.options_of-in-Run.ensures c.requires.workers

pub load-requires-clause-workers : goal.load-requires-clause-workers
load-requires-clause-workers g c = λ κs _. rw c.options_of-in-Load.ensures c.requires.workers

pub returns-in-Session-clause-others : goal.returns-in-Session-clause-others
returns-in-Session-clause-others g c = rw c.options_of.ensures at c.session.ensures.others

pub returns-in-Run-clause-others : goal.returns-in-Run-clause-others
returns-in-Run-clause-others g c = rw c.options_of-in-Run.ensures at c.one_run.ensures.others

pub returns-in-Load-clause-others : goal.returns-in-Load-clause-others
returns-in-Load-clause-others g c = rw c.options_of-in-Load.ensures at c.load.ensures.others

pub returns-in-Gen-clause-others : goal.returns-in-Gen-clause-others
returns-in-Gen-clause-others g c = (refl, refl)
