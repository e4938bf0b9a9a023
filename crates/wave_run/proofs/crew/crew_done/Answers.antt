use Rattle.std.proofs.Common.{rules, arith, length, ◌+◌}
use Rattle.wave_run.proofs.Crews.{no_costs, none_counted, none_spent, resting}
use Rattle.wave_run.proofs.crew.crew_done.Goals as goal

pub returns-in_err-board-clause-counted : goal.returns-in_err-board-clause-counted
returns-in_err-board-clause-counted g c =
    let n = length c.args.jobs.now.items in
    (no_costs n, none_spent _ _, λ i. omega (arith, none_counted i n), search rules)

pub returns-in_err-board-clause-served : goal.returns-in_err-board-clause-served
returns-in_err-board-clause-served g c = resting g.S.Step.can g.S.Step.count (length c.args.jobs.now.items + 1) c.args.workers.now
