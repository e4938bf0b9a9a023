use Rattle.findings.specs.Passes.{unit_in}
use Rattle.vet_flow.proofs.DeadLemmas.{rows_dead}
use Rattle.vet_flow.proofs.unreachable.Unreachable.run.Goals as goal

pub run_over_dead-requires-clause-dead : goal.run_over_dead-requires-clause-dead
run_over_dead-requires-clause-dead c = rows_dead (unit_in c.args.pass.now) c.in_ok-dead.dead.items c.in_ok-dead.ensures
