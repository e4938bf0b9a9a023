use Rattle.std.proofs.Common.{rules, ◌≡◌, ◌++◌, ◌+◌, length}
use Rattle.wave_run.proofs.Crews.{with_resting}
use Rattle.wave_run.proofs.crew.all_done.Goals as goal

pub returns-in_err-answers-clause-served : goal.returns-in_err-answers-clause-served
returns-in_err-answers-clause-served g c =
    let crew = c.split_at_mut-crew.result.0.now in
    let others = c.split_at_mut-crew.result.1.now in
    let all : c.args.workers.now ≡ crew ++ others = search rules in
    with_resting g.S.Step.can g.S.Step.count (length c.args.jobs.now.items + 1) c.args.workers.now crew others c.crew_done.new.workers all c.crew_done.ensures.served

pub returns-clause-served : goal.returns-clause-served
returns-clause-served g c =
    let crew = c.split_at_mut-crew.result.0.now in
    let others = c.split_at_mut-crew.result.1.now in
    let all : c.args.workers.now ≡ crew ++ others = search rules in
    with_resting g.S.Step.can g.S.Step.count (length c.args.jobs.now.items + 1) c.args.workers.now crew others c.crew_done.new.workers all c.crew_done.ensures.served
