use Rattle.std.proofs.Common.{◌≡◌}
use Rattle.wave_run.specs.Turns.{IsWorking}
use Rattle.wave_run.proofs.wave.work.Given as goal

abbrev pub invariant-loop-turn : goal.invariant-loop-turn
invariant-loop-turn g l =
    (l.pass.seat.table_id ≡ l.initial.pass.seat.table_id)
    × (g.S.Step.rest l.worker ≡ g.S.Step.rest l.initial.worker)
    × IsWorking (g.S.Step.right l.step) (g.S.Step.spent l.step) g.S.Step.can g.S.Step.count l.jobs.items l.initial.pass.seat.me.0 l.pass.seat.me.0 l.initial.worker l.worker l.found.items l._turn
