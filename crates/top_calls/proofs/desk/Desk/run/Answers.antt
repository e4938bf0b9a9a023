use Rattle.top_calls.proofs.DeskLaws.{Tries-run}
use Rattle.top_calls.proofs.desk.Desk.run.Goals as goal

pub returns-in_err-report-clause-tries : goal.returns-in_err-report-clause-tries
returns-in_err-report-clause-tries g c = Tries-run c.args.options.now c.args.kind c.args.self.now _ _ (rw c.task_of-task.ensures at c.in_err-report.ensures.most)

pub returns-in_err-put_changed-clause-tries : goal.returns-in_err-put_changed-clause-tries
returns-in_err-put_changed-clause-tries g c = Tries-run c.args.options.now c.args.kind c.args.self.now _ _ (rw c.task_of-task.ensures at c.run.ensures.most)

pub returns-clause-tries : goal.returns-clause-tries
returns-clause-tries g c = Tries-run c.args.options.now c.args.kind c.args.self.now _ _ (rw c.task_of-task.ensures at c.run.ensures.most)

pub run-requires-clause-loads : goal.run-requires-clause-loads
run-requires-clause-loads g c = λ κs _ k kit e. (c.requires.room k kit e).0

pub run-requires-clause-runs : goal.run-requires-clause-runs
run-requires-clause-runs g c = λ κs _ k kit e. (c.requires.room k kit e).1
